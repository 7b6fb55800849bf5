-- What the cells of a loop come to for workers, by the places of their indices.
use Rattle.std.specs.Prelude.{◌≡◌, ℕ, Bool, List, [], ◌∷◌, ◌++◌, length, ℤ, Option, Some, None, Result, Ok, Err, slice_index_or}
use Rattle.sac_base.specs.declared.base.Base.{Base}
use Rattle.sac_base.specs.Arrays.{ArrayValue}
use Rattle.sac_base.specs.Outcomes.{Ends}
use Rattle.counted_code.specs.Loops.{Job, job_does}
use Rattle.counted_code.specs.Values.{Heap, Failed}
use Rattle.array_with_loops.specs.Cells.{cell_from}
use Rattle.wl_core.specs.Machine.{CellValue}
use Rattle.sac_base.specs.declared.stop.Stop.{Stop}
use Rattle.sac_base.specs.declared.stop.Stop.TheVariants.{Faulted, Memory}
use Rattle.phase_loop_laws.specs.Ordered.{begun, Settles}

-- ---- cells

-- what stands at a place whose index has no cell: the old elements there, or the default's
abbrev pub filled : Bool → ArrayValue → ℕ → ℕ → Option (List ℤ)
filled old background n place = Some (cell_from old background n place None)

-- nothing stands there
abbrev pub unfilled : ℕ → Option (List ℤ)
unfilled place = None

abbrev pub elements_or : Option (List ℤ) → Option ArrayValue → Option (List ℤ)
elements_or fill None = fill
elements_or fill (Some a) = Some a.cells

-- the elements of a cell
abbrev pub as_cell : Option (List ℤ) → Ends (Option ArrayValue) → CellValue
as_cell fill (Ok c) = Ok (elements_or fill c)
as_cell fill (Err f) = Err f

abbrev pub index_at : List (List ℤ) → ℕ → List ℤ
index_at indices place = slice_index_or indices place []

-- what the cell at a place comes to
abbrev pub worked : (ℕ → Option (List ℤ)) → (List ℤ → Ends (Option ArrayValue)) → List (List ℤ) → ℕ → CellValue
worked fill cell indices place = as_cell (fill place) (cell (index_at indices place))

-- ---- results

-- the elements are those of what is made of all cells, an array of this base and shape; or the fault is that of the first cell that has one
abbrev pub IsResult : (List (Option ArrayValue) → ArrayValue) → Base → List ℕ → Ends (List (Option ArrayValue)) → List ℤ → Result (Unit {0}) Stop → Type 0
IsResult result base shape cells elements (Ok done) =
    (cs : List (Option ArrayValue)) × (cells ≡ Ok cs) × (result cs ≡ record { base = base; shape = shape; cells = elements })
IsResult result base shape cells elements (Err (Faulted fault)) = cells ≡ Err fault
IsResult result base shape cells elements (Err Memory) = Unit {0}

-- the machine settles the array that workers have made, or ends with their fault. Want of memory says nothing
abbrev pub PhaseEnds : Job → Base → List ℕ → ℕ → Heap → List ℤ → Result (Unit {0}) Stop → Type 0
PhaseEnds j base shape n m elements (Ok done) =
    Settles (record { base = base; shape = shape; cells = elements }) n (begun j m) (job_does None j m)
PhaseEnds j base shape n m elements (Err (Faulted fault)) = job_does None j m ≡ Failed fault (m.phases ++ length j.indices ∷ [])
PhaseEnds j base shape n m elements (Err Memory) = Unit {0}

-- ---- forms

-- the cells that are there have this base and shape
abbrev pub HaveForm : Base → List ℕ → (List ℤ → Ends (Option ArrayValue)) → Type 0
HaveForm base shape cell = (v : List ℤ) (c : ArrayValue) → cell v ≡ Ok (Some c) → (c.base ≡ base) × (c.shape ≡ shape)

-- What workers make of the cells of positions that follow one another.
use Rattle.std.specs.Prelude.{◌≡◌, ℕ, zero, suc, ◌+◌, ◌*◌, ◌%◌, ◌^◌, ◌≤◌, ℤ, List, [], ◌∷◌, length, take, drop}
use Rattle.std.specs.Prelude.{All, Bool, true, cond, Option, Some, None, Result, Ok, Err}
use Rattle.sac_base.specs.Verdict.{each, present, joined, combined}
use Rattle.sac_base.specs.declared.op.Op.{Op}
use Rattle.wl_core.specs.declared.setup.Job.{Job}
use Rattle.wl_core.specs.declared.setup.Job.TheVariants.{Write as Store, Fold}
use Rattle.wl_core.specs.Machine.{CellValue, combine, both}
use Rattle.sac_base.specs.declared.stop.Stop.{Stop}
use Rattle.sac_base.specs.declared.stop.Stop.TheVariants.{Faulted, Memory}
use Rattle.phase_team.specs.declared.cells.CellEnd.{CellEnd}
use Rattle.phase_team.specs.declared.cells.CellEnd.TheVariants.{Value, NotHeld, Stopped}

-- what a computed cell says of its meaning. Want of memory says nothing
abbrev pub Tells : CellValue → List ℤ → CellEnd → Type 0
Tells meaning elements Value = meaning ≡ Ok (Some elements)
Tells meaning elements NotHeld = meaning ≡ Ok None
Tells meaning elements (Stopped (Faulted fault)) = meaning ≡ Err fault
Tells meaning elements (Stopped Memory) = Unit {0}

-- the cell did not stop
abbrev pub IsComputed : CellEnd → Type 0
IsComputed Value = Unit {0}
IsComputed NotHeld = Unit {0}
IsComputed (Stopped stop) = ⊥

-- the cells of n positions from the first on
abbrev pub cells_from : (ℕ → CellValue) → ℕ → ℕ → List CellValue
cells_from cell start zero = []
cells_from cell start (suc n) = cell start ∷ cells_from cell (suc start) n

-- what the cells of n positions from the first on cost together
abbrev pub cost_from : (ℕ → ℕ) → ℕ → ℕ → ℕ
cost_from cost start zero = 0
cost_from cost start (suc n) = cost start + cost_from cost (suc start) n

-- the elements of the cell at a place, where those of cells stand one after another
abbrev pub row_at : ℕ → ℕ → List ℤ → List ℤ
row_at width place rows = take width (drop (place * width) rows)

-- two counts of a kind are the same, those of kind 0 exactly and all others modulo 2^64
abbrev pub Same : ℕ → ℕ → ℕ → Type 0
Same zero a b = a ≡ b
Same (suc kind) a b = a % 2 ^ 64 ≡ b % 2 ^ 64

-- each count has risen by the cost of n positions
abbrev pub Costs : (ℕ → ℕ → ℕ) → ℕ → ℕ → (ℕ → ℕ) → (ℕ → ℕ) → Type 0
Costs cost start n before after = (kind : ℕ) → Same kind (after kind) (before kind + cost_from (cost kind) start n)

-- a value that may be missing
abbrev pub value_if : Bool → List ℤ → Option (List ℤ)
value_if held value = cond held (Some value) None

-- what stands in a worker's rows: the elements of its cells one after another, or in the first row the combination of those that are held
abbrev pub Holds : Job → ℕ → List (Option (List ℤ)) → Bool → List ℤ → Type 0
Holds Store width values held rows = rows ≡ joined (present values)
Holds (Fold base op) width values held rows = combined (combine op) (present values) ≡ value_if held (take width rows)

-- each value that is there has so many elements
abbrev pub HaveWidth : ℕ → List (Option (List ℤ)) → Type 0
HaveWidth width values = All (λ (x : List ℤ). length x ≡ width) (present values)

-- the cells were taken in order: none faults, each that is held has a row's elements, and this was made of their values, or the first that did not
-- come to a value stopped them
abbrev pub Ran : Job → ℕ → List CellValue → List ℤ → Result Bool Stop → Type 0
Ran job width cells rows (Ok held) = (values : List (Option (List ℤ))) × (each cells ≡ Ok values) × Holds job width values held rows × HaveWidth width values
Ran job width cells rows (Err (Faulted fault)) = each cells ≡ Err fault
Ran job width cells rows (Err Memory) = Unit {0}

-- the first cells were stored, at least one and at most n, or the first that did not come to a value stopped all n
abbrev pub StoredNext : ℕ → (ℕ → CellValue) → ℕ → ℕ → List ℤ → Result ℕ Stop → Type 0
StoredNext width cell start n rows (Ok k) = (1 ≤ k) × (k ≤ n) × Ran Store width (cells_from cell start k) (take (k * width) rows) (Ok true)
StoredNext width cell start n rows (Err stop) = Ran Store width (cells_from cell start n) rows (Err stop)

-- the cells that are held, which have so many elements, were combined in order
abbrev pub Gathered : Op → ℕ → List CellValue → List ℤ → Result Bool Stop → Type 0
Gathered op width cells value (Ok held) = (values : List (Option (List ℤ))) × (each cells ≡ Ok values)
    × (combined (combine op) (present values) ≡ value_if held value) × HaveWidth width values
Gathered op width cells value (Err (Faulted fault)) = each cells ≡ Err fault
Gathered op width cells value (Err Memory) = Unit {0}

-- where values are combined, there is a row on both sides
abbrev pub HasRows : Job → ℕ → ℕ → ℕ → Type 0
HasRows Store width mine rest = Unit {0}
HasRows (Fold base op) width mine rest = (width ≤ mine) × (width ≤ rest)

-- the combination of two sides goes into the first row of one, whose number of elements stays. Stored cells stay as they are
abbrev pub MergesRows : Job → ℕ → List ℤ → List ℤ → Bool → Bool → List ℤ → Bool → Type 0
MergesRows Store width mine rest held more after result = after ≡ mine
MergesRows (Fold base op) width mine rest held more after result =
    (length after ≡ length mine) × (value_if result (take width after) ≡ both (combine op) (value_if held (take width mine)) (value_if more (take width rest)))

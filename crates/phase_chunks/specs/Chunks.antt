-- What becomes of chunks.
use Rattle.std.specs.Prelude.{◌≡◌, ℕ, ◌+◌, ◌-◌, ◌*◌, min, ℤ, List, length, take, Bool, Option, None, Some, Result, Ok, Err}
use Rattle.buffer_parts.specs.Spans.{KeepsPlace, Span}
use Rattle.chunk_reports.specs.declared.reports.Report.{Report}
use Rattle.sac_base.specs.Verdict.{each, present, combined}
use Rattle.sac_base.specs.declared.op.Op.{Op}
use Rattle.sac_base.specs.declared.stop.Stop.{Stop}
use Rattle.sac_base.specs.declared.stop.Stop.TheVariants.{Faulted, Memory}
use Rattle.wl_core.specs.declared.setup.Job.{Job}
use Rattle.wl_core.specs.declared.setup.Job.TheVariants.{Write as Store, Fold}
use Rattle.wl_core.specs.Machine.{CellValue, combine, both}
use Rattle.phase_chunks.specs.declared.shares.Share.{Share}
use Rattle.phase_team.specs.Segments.{cells_from, value_if, HaveWidth, Ran}

-- What a phase's table has for a chunk: the part of a buffer that it fills. A fold has none.
abbrev pub ChunkPart : Type 0
ChunkPart = Option (Span ℤ)

abbrev pub ChunkReport : Type 0
ChunkReport = Report ChunkPart

-- how many positions the chunk c has, and its cells
abbrev pub count_of : Share → ℕ → ℕ
count_of share c = min share.size (share.positions - c * share.size)

abbrev pub cells_of : (ℕ → CellValue) → Share → ℕ → List CellValue
cells_of cell share c = cells_from cell (c * share.size) (count_of share c)

-- the part of a chunk has so many elements. A fold's chunk has none
abbrev pub PartFits : Job → ℕ → ChunkPart → Type 0
PartFits Store n None = ⊥
PartFits Store n (Some p) = length p.cells ≡ n
PartFits (Fold base op) n None = Unit {0}
PartFits (Fold base op) n (Some p) = ⊥

-- a fold has a row for a chunk's value and a spare one
abbrev pub HasTwoRows : Job → ℕ → ℕ → Type 0
HasTwoRows Store width len = Unit {0}
HasTwoRows (Fold base op) width len = len ≡ width + width

-- and a row for the value of all chunks of a worker before these
abbrev pub HasThreeRows : Job → ℕ → ℕ → Type 0
HasThreeRows Store width len = Unit {0}
HasThreeRows (Fold base op) width len = len ≡ width + (width + width)

-- the cells end so: none faults, and each that is held has so many elements, or this is the first that faults. Want of memory says nothing
abbrev pub Ended : ℕ → List CellValue → Result Bool Stop → Type 0
Ended width cells (Ok held) = (values : List (Option (List ℤ))) × (each cells ≡ Ok values) × HaveWidth width values
Ended width cells (Err (Faulted fault)) = each cells ≡ Err fault
Ended width cells (Err Memory) = Unit {0}

-- what a chunk's cells came to, and its part after it
abbrev pub IsDone : Job → ℕ → List CellValue → ChunkPart → ChunkPart → Result Bool Stop → Type 0
IsDone Store width cells None part end = ⊥
IsDone Store width cells (Some p) None end = ⊥
IsDone Store width cells (Some p) (Some q) end = KeepsPlace p q × Ran Store width cells q.cells end
IsDone (Fold base op) width cells None None end = Ended width cells end
IsDone (Fold base op) width cells None (Some q) end = ⊥
IsDone (Fold base op) width cells (Some p) part end = ⊥

-- the values of cells, combined in order. None where none is held, or one faults
abbrev pub partial_of : Op → Result (List (Option (List ℤ))) Rattle.sac_base.specs.declared.faults.Fault.Fault → Option (List ℤ)
partial_of op (Ok values) = combined (combine op) (present values)
partial_of op (Err fault) = None

-- the first row has the combination of a chunk's cells
abbrev pub IsPartial : Job → ℕ → List CellValue → Bool → List ℤ → Type 0
IsPartial Store width cells held rows = Unit {0}
IsPartial (Fold base op) width cells held rows = value_if held (take width rows) ≡ partial_of op (each cells)

-- the first row has the combination that it had, combined with that of a chunk's cells
abbrev pub IsMore : Job → ℕ → List CellValue → Bool → List ℤ → Bool → List ℤ → Type 0
IsMore Store width cells held before more after = Unit {0}
IsMore (Fold base op) width cells held before more after =
    value_if more (take width after) ≡ both (combine op) (value_if held (take width before)) (partial_of op (each cells))

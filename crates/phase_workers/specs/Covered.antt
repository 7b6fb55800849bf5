-- Loops in which each position has a cell.
use Rattle.std.specs.Prelude.{◌≡◌, ℕ, ◌<◌, true, List, ℤ, length, is_some, Option, Some, None, Result, Ok, Err}
use Rattle.phase_kernels.specs.declared.cells.KernelCells.{KernelCells}
use Rattle.phase_loop_cells.specs.Cells.{index_at, source_cell, source_taken}
use Rattle.phase_loop_cells.specs.declared.copies.Background.{Background}
use Rattle.run_loops.specs.declared.cell_loop.CellSource.{CellSource}
use Rattle.run_loops.specs.Loops.{held_body}
use Rattle.run_values.specs.Scopes.{current}
use Rattle.sac_base.specs.declared.faults.Fault.{Fault}
use Rattle.sac_base.specs.declared.faults.FaultKind.TheVariants.{F1}
use Rattle.sac_base.specs.declared.stop.Stop.{Stop}
use Rattle.sac_base.specs.declared.stop.Stop.TheVariants.{Faulted, Memory}
use Rattle.sac_base.specs.WithLoops.{Range}
use Rattle.wl_core.specs.Machine.{CellValue}

-- what the cell of a position comes to, and how many buffers it takes
abbrev pub cell_of : KernelCells → ℕ → CellValue
cell_of s = source_cell s.cells.context s.cells.heap.now (current s.cells.frames.now) s.cells.source s.cells.plan.now s.cells.background

abbrev pub taken_of : KernelCells → ℕ → ℕ
taken_of s = source_taken s.cells.context s.cells.heap.now (current s.cells.frames.now) s.cells.source s.cells.plan.now

-- each index has a cell
abbrev pub AreCovered : CellSource → List Range → List (List ℤ) → Type 0
AreCovered source ranges indices = (place : ℕ) → place < length indices → is_some (held_body source ranges (index_at indices place)) ≡ true

-- the same, or something stands where an index has none
abbrev pub IsWhole : Option Background → CellSource → List Range → List (List ℤ) → Type 0
IsWhole None source ranges indices = AreCovered source ranges indices
IsWhole (Some b) source ranges indices = Unit {0}

abbrev pub AreWhole : KernelCells → Type 0
AreWhole s = IsWhole s.cells.background s.cells.source s.cells.plan.now.ranges.items s.cells.plan.now.frame

-- What a position without a cell counts as: some fault, no matter which. Workers stop there for want of memory, and believe a fault only where each
-- position has a cell.
abbrev pub no_cell : Fault
no_cell = record { kind = F1; site = record { line = 0; col = 0 } }

abbrev pub must_be_there : CellValue → CellValue
must_be_there (Ok None) = Err no_cell
must_be_there (Ok (Some elements)) = Ok (Some elements)
must_be_there (Err fault) = Err fault

-- the same end, but a fault only where this is known
abbrev pub EndsIf : {A : Type 0} → Type 0 → Result A Stop → Result A Stop → Type 0
EndsIf Known end (Ok a) = end ≡ Ok a
EndsIf Known end (Err (Faulted fault)) = (end ≡ Err (Faulted fault)) × Known
EndsIf Known end (Err Memory) = Unit {0}

-- what is known where the end says something
abbrev pub IfEnded : {A : Type 0} → Result A Stop → Type 0 → Type 0
IfEnded (Ok a) Known = Known
IfEnded (Err (Faulted fault)) Known = Known
IfEnded (Err Memory) Known = Unit {0}

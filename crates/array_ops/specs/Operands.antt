-- The operands of an operator.
use Rattle.std.specs.Prelude.{◌≡◌, ◌<◌, ℕ, ℤ, pos, List, length, replicate, slice_index_or, Result, Ok, Err, Vec, ⊤}
use Rattle.std.specs.Global.{Global}
use Rattle.sac_base.specs.declared.faults.FaultKind.TheVariants.{F2}
use Rattle.sac_base.specs.declared.op.ZeroDivisor.{ZeroDivisor}
use Rattle.array_ops.specs.declared.error.ArrayError.{ArrayError}
use Rattle.array_ops.specs.declared.error.ArrayError.TheVariants.{Faulted, Memory}
use Rattle.array_ops.specs.declared.elements.Operand.{Operand}
use Rattle.array_ops.specs.declared.elements.Operand.TheVariants.{Each, Same}

-- there are n cells
abbrev pub HasCells : Operand → ℕ → Type 0
HasCells (Each cells) n = length cells.now ≡ n
HasCells (Same cell) n = ⊤

-- there is a cell at this place
abbrev pub HasCell : Operand → ℕ → Type 0
HasCell (Each cells) k = k < length cells.now
HasCell (Same cell) k = ⊤

-- the cells for a result of n elements
abbrev pub cells_of : ℕ → Operand → List ℤ
cells_of n (Each cells) = cells.now
cells_of n (Same cell) = replicate n cell

abbrev pub cell_at : Operand → ℕ → ℤ
cell_at (Each cells) k = slice_index_or cells.now k (pos 0)
cell_at (Same cell) k = cell

abbrev pub CellsError : ArrayError → Result (List ℤ) ZeroDivisor → Type 0
CellsError (Faulted kind) meant = (kind ≡ F2) × (meant ≡ Err (record {}))
CellsError Memory meant = ⊤

-- the answer is the cells that are meant, or F2 where one divides by zero
abbrev pub GivesCells : Result (Vec ℤ Global) ArrayError → Result (List ℤ) ZeroDivisor → Type 0
GivesCells (Ok cells) meant = meant ≡ Ok cells.items
GivesCells (Err error) meant = CellsError error meant

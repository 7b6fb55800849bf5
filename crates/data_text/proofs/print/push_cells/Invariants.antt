use Rattle.std.proofs.Common.{◌≡◌, ◌++◌, take}
use Rattle.std.specs.List.{flat_map}
use Rattle.data_text.specs.Printed.{spaced}
use Rattle.data_text.proofs.print.push_cells.Given as goal

abbrev pub invariant-loop-cell : goal.invariant-loop-cell
invariant-loop-cell l = l.into.items ≡ l.fn.into.items ++ flat_map (spaced l.base) (take l.cell-index l.cells)

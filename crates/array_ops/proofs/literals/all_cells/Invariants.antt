use Rattle.std.proofs.Common.{◌≡◌, take, All}
use Rattle.sac_base.specs.Arrays.{IsFull}
use Rattle.sac_base.specs.Parts.{cells_of_all}
use Rattle.array_ops.proofs.literals.all_cells.Given as goal

abbrev pub invariant-loop-item : goal.invariant-loop-item
invariant-loop-item l = (l.cells.items ≡ cells_of_all (take l.item-index l.items)) × All IsFull (take l.item-index l.items)

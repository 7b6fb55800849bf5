use Rattle.std.proofs.Common.{◌≤◌, drop, length}
use Rattle.variable_bases.specs.Learned.{HasParams}
use Rattle.variable_bases.proofs.table.BaseTable.of_params.Given as goal

abbrev pub invariant-loop-left : goal.invariant-loop-left
invariant-loop-left l = (l.left ≤ length l.params) × HasParams (drop l.left l.params) l.table

abbrev pub decreases-loop-left : goal.decreases-loop-left
decreases-loop-left l = l.left

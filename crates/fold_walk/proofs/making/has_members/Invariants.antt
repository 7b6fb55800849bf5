use Rattle.std.proofs.Common.{◌≡◌, drop}
use Rattle.fold_walk.proofs.Gathering.{has_first}
use Rattle.fold_walk.proofs.making.has_members.Given as goal

abbrev pub invariant-loop-axis : goal.invariant-loop-axis
invariant-loop-axis l = has_first (drop l.axis-index l.axis-items) ≡ has_first l.axis-items

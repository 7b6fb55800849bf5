use Rattle.std.proofs.Common.{◌≡◌, drop}
use Rattle.sac_base.specs.Grids.{has_vector}
use Rattle.sac_base.proofs.grid.Grid.contains.Given as goal

abbrev pub invariant-loop-k : goal.invariant-loop-k
invariant-loop-k l = has_vector (drop l.k l.axes) (drop l.k l.index) ≡ has_vector l.axes l.index

use Rattle.std.proofs.Common.{◌≡◌, drop}
use Rattle.sac_base.specs.Grids.{has_vector}
use Rattle.generator_sets.specs.Pieces.{lows}
use Rattle.generator_sets.proofs.first.has_first.Given as goal

abbrev pub invariant-loop-k : goal.invariant-loop-k
invariant-loop-k l = has_vector l.grid (lows l.piece) ≡ has_vector (drop l.k l.grid) (lows (drop l.k l.piece))

use Rattle.std.proofs.Common.{◌≡◌, drop}
use Rattle.std.specs.Prelude.{position}
use Rattle.std.specs.List.{position_from}
use Rattle.sac_base.specs.Grids.{has_vector}
use Rattle.generator_sets.specs.Pieces.{lows}
use Rattle.generator_sets.proofs.first.first_generator.Given as goal

abbrev pub invariant-loop-index : goal.invariant-loop-index
invariant-loop-index l = position (λ g. has_vector g (lows l.piece)) l.generators ≡ position_from (λ g. has_vector g (lows l.piece)) l.index (drop l.index l.generators)

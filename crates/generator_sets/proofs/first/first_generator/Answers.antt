use Rattle.std.proofs.lemmas.Iterator.Adapters.{position_from-zero}
use Rattle.sac_base.specs.Grids.{has_vector}
use Rattle.generator_sets.specs.Pieces.{lows}
use Rattle.generator_sets.proofs.first.first_generator.Goals as goal

pub loop-index-init : goal.loop-index-init
loop-index-init c = position_from-zero (λ g. has_vector g (lows c.args.piece.now)) c.args.generators.now

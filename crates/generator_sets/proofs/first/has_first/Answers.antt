use Rattle.std.proofs.Common.{arith, sym}
use Rattle.generator_sets.proofs.Uniformity.{other_length}
use Rattle.generator_sets.proofs.first.has_first.Goals as goal

pub returns-then-grid-piece : goal.returns-then-grid-piece
returns-then-grid-piece c = sym (other_length c.args.grid.now c.args.piece.now (λ e. absurd (omega arith)))

use Rattle.std.proofs.Common.{sym, ◌∙◌}
use Rattle.generator_sets.specs.Pieces.{lows, moved}
use Rattle.fold_pieces.proofs.Searching.{beyond_start, beyond_more, beyond_hit, beyond_end}
use Rattle.fold_pieces.proofs.holding.holder.Goals as goal

pub loop-j-init : goal.loop-j-init
loop-j-init c = beyond_start c.args.grids.now (moved (lows c.args.piece.now) c.args.by.now)

pub loop-j-preserved : goal.loop-j-preserved
loop-j-preserved c =
    beyond_more c.args.grids.now (moved (lows c.args.piece.now) c.args.by.now) c.loop-j.j c.index-grids-j.result c.loop-j-test.true c.index-grids-j.is c.loop-j.invariant
    (sym c.if-has_at.false ∙ c.has_at.ensures)

pub returns-then-has_at-clause-some : goal.returns-then-has_at-clause-some
returns-then-has_at-clause-some c =
    beyond_hit c.args.grids.now (moved (lows c.args.piece.now) c.args.by.now) c.loop-j.j c.index-grids-j.result c.loop-j-test.true c.index-grids-j.is c.loop-j.invariant
    (sym c.if-has_at.true ∙ c.has_at.ensures)

pub returns-clause-none : goal.returns-clause-none
returns-clause-none c = beyond_end c.args.grids.now (moved (lows c.args.piece.now) c.args.by.now) c.loop-j.j c.loop-j-test.false c.loop-j.invariant

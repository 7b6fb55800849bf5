use Rattle.std.proofs.Common.{All, refl, subst, ◌∙◌, take_all, arith}
use Rattle.std.proofs.lemmas.List.Elements.{All-more}
use Rattle.run_loops.specs.Loops.{IsWordAxis}
use Rattle.run_loops.proofs.bounds.are_words.Goals as goal

pub loop-k-preserved : goal.loop-k-preserved
loop-k-preserved c =
    All-more IsWordAxis c.axes-axes.result.now c.loop-k.k c.index-axes-k.result c.loop-k-test.true c.loop-k.invariant (subst IsWordAxis c.index-axes-k.is (c.if-not-is_word.ensures refl))

pub returns : goal.returns
returns c = λ yes'. subst (All IsWordAxis) (take_all c.loop-k.k c.axes-axes.result.now (omega (arith, c.loop-k-test.false)) ∙ c.axes-axes.ensures.axes) c.loop-k.invariant

use Rattle.std.proofs.Common.{◌∙◌, ◌+◌, ap, sym, rules, pos, get_or, drop, w32, FitsSigned, subst, All}
use Rattle.std.specs.Prelude.{int_le, ◌&&◌}
use Rattle.std.specs.List.{list_all}
use Rattle.std.proofs.lemmas.List.{drop_more, take_all}
use Rattle.std.proofs.lemmas.List.Elements.{All-more}
use Rattle.array_with_loops.specs.Ranges.{IsStep}
use Rattle.array_with_loops.proofs.BoundSteps.{step_here}
use Rattle.array_with_loops.proofs.bounds.are_positive.Goals as goal

pub loop-z-preserved : goal.loop-z-preserved
loop-z-preserved c =
    let zs = c.args.zs.now in
    let k = c.loop-z.z-index in
    let f : FitsSigned w32 (get_or zs k (pos 0)) = search rules in
    let here = step_here (get_or zs k (pos 0)) f c.if-z-lt1.false in
    record {
      value = sym (ap (list_all (int_le (pos 1))) (drop_more zs k (pos 0) c.loop-z-test.true) ∙ ap (λ b. b && list_all (int_le (pos 1)) (drop (k + 1) zs)) here.1) ∙ c.loop-z.invariant.value;
      steps = All-more IsStep zs k (pos 0) c.loop-z-test.true c.loop-z.invariant.steps here.0;
    }

pub returns-clause-steps : goal.returns-clause-steps
returns-clause-steps c = λ t. subst (All IsStep) (take_all c.loop-z.z-index c.args.zs.now c.loop-z-test.false) c.loop-z.invariant.steps

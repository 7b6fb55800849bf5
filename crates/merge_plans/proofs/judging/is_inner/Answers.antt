use Rattle.merge_plans.specs.Openings.{nest_term}
use Rattle.merge_plans.proofs.InnerLoops.{inner_if}
use Rattle.merge_plans.proofs.judging.is_inner.Goals as goal

pub returns-then-fit_behind : goal.returns-then-fit_behind
returns-then-fit_behind c =
    inner_if c.args.grid.now c.args.frame.now c.args.base (nest_term c.args.nest.now) c.in-Some.target c.in-Some.ensures.some.0 c.is_unused.result c.in-Some.ensures.some.1
    (c.has_form.ensures.0 c.if-not-has_form.false) (c.fit_behind.ensures.0 c.if-fit_behind.true) c.is_unused.ensures

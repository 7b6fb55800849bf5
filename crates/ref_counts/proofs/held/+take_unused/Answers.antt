use Rattle.std.proofs.Common.{◌++◌, ap, subst, sym, ◌∙◌}
use Rattle.ref_counts.specs.Owning.{owned_vars, IsSound}
use Rattle.ref_counts.proofs.Forks.{pruned, forked_ends}
use Rattle.ref_counts.proofs.held.+take_unused.Goals as goal

pub returns-then-from-used_before : goal.returns-then-from-used_before
returns-then-from-used_before t c es =
    pruned es c.args.from c.args.tree _ c.in-Fork.used_before c.args.out.now.items c.in-Fork.is (λ s. s.0) c.if-from-used_before.true

pub returns-in_ok-second-in-Fork : goal.returns-in_ok-second-in-Fork
returns-in_ok-second-in-Fork t c es sound =
    let s = subst (IsSound es) c.in-Fork.is sound in
    forked_ends c.fork.result es c.args.from c.args.tree c.into_inner.result c.into_inner-in-Fork.result c.in_ok-first-in-Fork.first c.in_ok-second-in-Fork.second
    c.args.out.now.items c.take_unused.new.out.items c.take_unused-in-Fork.new.out.items
    (ap owned_vars c.in-Fork.is ∙ (λ i. owned_vars (sym c.into_inner.ensures i) ++ owned_vars (sym c.into_inner-in-Fork.ensures i)))
    (c.in_ok-first-in-Fork.ensures es (subst (IsSound es) (sym c.into_inner.ensures) s.1))
    (c.in_ok-second-in-Fork.ensures es (subst (IsSound es) (sym c.into_inner-in-Fork.ensures) s.2))
    c.fork.ensures.vars (c.fork.ensures.sound es)

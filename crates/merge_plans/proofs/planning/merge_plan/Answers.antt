use Rattle.std.proofs.Common.{◌≤◌, ◌∙◌, ap, sym, subst, map, true≢false, ℕ}
use Rattle.std.specs.Prelude.{option_map}
use Rattle.core_ir.specs.declared.tree.PartedLoop.{out-PartedLoop}
use Rattle.core_ir.specs.View.{part_term}
use Rattle.core_ir.proofs.Trees.{parted_out}
use Rattle.fact_table.specs.Table.{facts_of}
use Rattle.plain_facts.specs.Called.{shapes_of}
use Rattle.merge_plans.specs.declared.planning.MergePlan.{MergePlan}
use Rattle.merge_plans.specs.Inners.{AreInner}
use Rattle.merge_plans.specs.Mergeable.{CanMerge, PlanOf}
use Rattle.merge_plans.specs.Seen.{IsSeen, first_frame}
use Rattle.merge_plans.proofs.Verdict.{no_first, not_all, not_seen, plan_is}
use Rattle.merge_plans.proofs.planning.merge_plan.Goals as goal

pub returns-in_default-clause-none : goal.returns-in_default-clause-none
returns-in_default-clause-none c =
    let x = out-PartedLoop c.args.outer.now in
    let is = parted_out c.args.outer.now in
    λ w. no_first (shapes_of c.args.called.now) c.args.above (facts_of c.args.facts.now) x.frame x.base x.cell (map part_term x.parts.items) x.op
    (ap first_frame (sym is) ∙ sym c.first_inner.ensures ∙ ap (option_map (λ f. f.now)) c.in_default.is)
    (subst (CanMerge (shapes_of c.args.called.now) c.args.above (facts_of c.args.facts.now)) is w)

pub returns-then-not-is_seen-clause-none : goal.returns-then-not-is_seen-clause-none
returns-then-not-is_seen-clause-none c =
    let x = out-PartedLoop c.args.outer.now in
    let is = parted_out c.args.outer.now in
    let inner = c.in-Some.inner.now in
    λ w. not_seen (shapes_of c.args.called.now) c.args.above (facts_of c.args.facts.now) x.frame x.base x.cell (map part_term x.parts.items) x.op inner
    (ap first_frame (sym is) ∙ sym c.first_inner.ensures ∙ ap (option_map (λ f. f.now)) c.in-Some.is)
    (λ seen. absurd (true≢false (sym (c.is_seen.ensures.1 (subst (λ r. IsSeen c.args.above r inner) (sym is) seen)) ∙ c.if-not-is_seen.true)))
    (subst (CanMerge (shapes_of c.args.called.now) c.args.above (facts_of c.args.facts.now)) is w)

pub returns-then-not-branch-clause-none : goal.returns-then-not-branch-clause-none
returns-then-not-branch-clause-none c =
    let x = out-PartedLoop c.args.outer.now in
    let is = parted_out c.args.outer.now in
    let inner = c.in-Some.inner.now in
    let called = shapes_of c.args.called.now in
    let k = facts_of c.args.facts.now in
    λ w. not_all called c.args.above k x.frame x.base x.cell (map part_term x.parts.items) x.op inner
    (ap first_frame (sym is) ∙ sym c.first_inner.ensures ∙ ap (option_map (λ f. f.now)) c.in-Some.is)
    (λ all. absurd (true≢false (sym (c.in_ok-are_inner.ensures.all.1
    (subst (λ ps. (count : ℕ) × (AreInner called k inner x.base (map part_term ps) count × (count ≤ 64))) (sym c.deref.ensures.value) all)) ∙ c.if-not-branch.true)))
    (subst (CanMerge called c.args.above k) is w)

pub returns-clause-plan : goal.returns-clause-plan
returns-clause-plan c =
    let x = out-PartedLoop c.args.outer.now in
    let is = parted_out c.args.outer.now in
    let inner = c.in-Some.inner.now in
    let called = shapes_of c.args.called.now in
    let k = facts_of c.args.facts.now in
    let plan : MergePlan = record { frame = c.in_ok-frame.frame } in
    subst (λ r. PlanOf called c.args.above k r plan) (sym is)
    (plan_is called c.args.above k x.frame x.base x.cell (map part_term x.parts.items) x.op inner plan
    (ap first_frame (sym is) ∙ sym c.first_inner.ensures ∙ ap (option_map (λ f. f.now)) c.in-Some.is)
    (subst (λ r. IsSeen c.args.above r inner) is (c.is_seen.ensures.0 c.if-not-is_seen.false))
    (subst (λ ps. (count : ℕ) × (AreInner called k inner x.base (map part_term ps) count × (count ≤ 64))) c.deref.ensures.value (c.in_ok-are_inner.ensures.all.0 c.if-not-branch.false))
    c.in_ok-frame.ensures)

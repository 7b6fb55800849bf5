use Rattle.std.proofs.Common.{◌<◌, ◌≤◌, refl, subst, map}
use Rattle.std.specs.Prelude.{IfNone, IfSome, Option, Vec}
use Rattle.std.specs.declared.alloc.Global.{Global}
use Rattle.sac_base.specs.declared.base.Base.{Base}
use Rattle.sac_base.specs.declared.site.Site.{Site}
use Rattle.core_ir.specs.declared.tree.PartedOp.{PartedOp}
use Rattle.core_ir.specs.Terms.{parts_of}
use Rattle.core_ir.specs.View.{part_term}
use Rattle.fact_table.specs.Table.{facts_of}
use Rattle.foldable_pairs.specs.declared.plan.PartPlan.{PartPlan}
use Rattle.foldable_pairs.specs.Pairs.{IsNear, Takes, producer_of}
use Rattle.plain_facts.specs.Called.{shapes_of}
use Rattle.fold_walk.specs.Making.{piece_count}
use Rattle.fold_walk.proofs.Consumers.{AllPlanned, few_pieces, many_pieces, no_plan, plan_lengths}
use Rattle.fold_walk.proofs.level.plan_pieces.Goals as goal

pub returns-in_default-clause-none : goal.returns-in_default-clause-none
returns-in_default-clause-none c =
    let called = shapes_of c.args.given.now.called.now in
    let later = facts_of c.args.table.now in
    let p = c.args.producer.now in
    let parts = map part_term c.args.parts.now in
    no_plan called later p c.args.op parts
    (subst (λ (o : Option (Vec PartPlan Global)). IfNone o (IsNear p → (s : Site) (base : Base) (made : PartedOp) → Takes called later (producer_of p s base made) c.args.op (parts_of parts) → ⊥)) c.in_default.is c.in_ok-plans.ensures.none)

pub all_pieces-requires : goal.all_pieces-requires
all_pieces-requires c =
    let called = shapes_of c.args.given.now.called.now in
    let later = facts_of c.args.table.now in
    let p = c.args.producer.now in
    plan_lengths called later p c.args.op c.args.parts.now c.in-Some.plans.items
    (subst (λ (o : Option (Vec PartPlan Global)). IfSome o (λ plans. AllPlanned called later p c.args.op (map part_term c.args.parts.now) plans.items)) c.in-Some.is c.in_ok-plans.ensures.plan)

pub returns-then-are_few-clause-some : goal.returns-then-are_few-clause-some
returns-then-are_few-clause-some c =
    let called = shapes_of c.args.given.now.called.now in
    let later = facts_of c.args.table.now in
    let p = c.args.producer.now in
    few_pieces called later p c.args.op (map part_term c.args.parts.now) c.in-Some.plans.items c.in_ok-pieces.pieces.items
    (subst (λ (o : Option (Vec PartPlan Global)). IfSome o (λ plans. AllPlanned called later p c.args.op (map part_term c.args.parts.now) plans.items)) c.in-Some.is c.in_ok-plans.ensures.plan)
    c.in_ok-pieces.ensures (subst (λ (vs : _). piece_count vs ≤ 64) c.deref.ensures.value (c.if-are_few.ensures.few refl))

pub returns-else-are_few-clause-none : goal.returns-else-are_few-clause-none
returns-else-are_few-clause-none c =
    let called = shapes_of c.args.given.now.called.now in
    let later = facts_of c.args.table.now in
    let p = c.args.producer.now in
    many_pieces called later p c.args.op (map part_term c.args.parts.now) c.in-Some.plans.items c.in_ok-pieces.pieces.items
    (subst (λ (o : Option (Vec PartPlan Global)). IfSome o (λ plans. AllPlanned called later p c.args.op (map part_term c.args.parts.now) plans.items)) c.in-Some.is c.in_ok-plans.ensures.plan)
    c.in_ok-pieces.ensures (subst (λ (vs : _). 64 < piece_count vs) c.deref.ensures.value (c.if-are_few.ensures.many refl))

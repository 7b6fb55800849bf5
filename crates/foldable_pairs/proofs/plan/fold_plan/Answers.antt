use Rattle.std.proofs.Common.{◌≡◌, ◌∙◌, ap, sym, subst, refl, true, false, map, drop, Ok, arith, ◌+◌, ◌∷◌}
use Rattle.core_ir.specs.View.{part_term}
use Rattle.core_ir.specs.Scopes.{parted_uses}
use Rattle.core_uses.proofs.Decided.{list_decided}
use Rattle.core_uses.specs.Tests.{none_is}
use Rattle.fact_table.specs.Table.{facts_of}
use Rattle.plain_facts.specs.Called.{shapes_of}
use Rattle.foldable_pairs.specs.Building.{Building}
use Rattle.foldable_pairs.specs.Pairs.{producer_of}
use Rattle.foldable_pairs.proofs.Planning.{build_none, built, unused, rest_is, rest_none}
use Rattle.foldable_pairs.proofs.plan.fold_plan.Goals as goal

pub loop-part-init : goal.loop-part-init
loop-part-init c = record {
  facts = refl;
  few = let none = c.no_plans-plans.ensures.count in omega (arith, none);
  so_far = λ s base made.
      build_none (shapes_of c.args.called.now) (facts_of c.args.facts.now) (producer_of c.args.producer.now s base made) (map part_term c.args.parts.now) c.no_plans-plans.result
      c.no_plans-plans.ensures.parts c.no_plans-plans.ensures.count c.no_plans-plans.ensures.used;
}

pub loop-part-preserved : goal.loop-part-preserved
loop-part-preserved c =
    let called = shapes_of c.args.called.now in
    let v = c.loop-part.invariant in
    let i = c.loop-part.part-index in
    let parts = c.args.parts.now in
    let x = c.part-item.result in
    record {
      facts = c.in_ok-add_part.ensures.facts ∙ v.facts;
      few = c.in_ok-add_part.ensures.few;
      so_far = λ s base made.
          let p = producer_of c.args.producer.now s base made in
          let before = subst (λ rest. Building called (facts_of c.args.facts.now) p (map part_term parts) rest c.loop-part.plans) (rest_is parts i x c.loop-part-test.true c.part-item.is)
          (v.so_far s base made) in
          subst (λ f. Building called (facts_of f) p (map part_term parts) (map part_term (drop (i + 1) parts)) c.add_part.new.plans) v.facts
          (c.in_ok-add_part.ensures.added (ap Ok c.if-not-branch.false) (map part_term parts) (map part_term (drop (i + 1) parts)) s base made
          (subst (λ f. Building called (facts_of f) p (map part_term parts) (part_term x ∷ map part_term (drop (i + 1) parts)) c.loop-part.plans) (sym v.facts) before));
    }

pub returns-then-not-branch-clause-none : goal.returns-then-not-branch-clause-none
returns-then-not-branch-clause-none c = λ near s base made takes.
    let called = shapes_of c.args.called.now in
    let v = c.loop-part.invariant in
    let i = c.loop-part.part-index in
    let parts = c.args.parts.now in
    let x = c.part-item.result in
    let p = producer_of c.args.producer.now s base made in
    let before = subst (λ rest. Building called (facts_of c.args.facts.now) p (map part_term parts) rest c.loop-part.plans) (rest_is parts i x c.loop-part-test.true c.part-item.is)
    (v.so_far s base made) in
    c.in_ok-add_part.ensures.none (ap Ok c.if-not-branch.true) near (map part_term parts) (map part_term (drop (i + 1) parts)) s base made
    (subst (λ f. Building called (facts_of f) p (map part_term parts) (part_term x ∷ map part_term (drop (i + 1) parts)) c.loop-part.plans) (sym v.facts) before)
    (subst (λ f. Rattle.foldable_pairs.specs.Building.CanTake called (facts_of f) p (map part_term parts)) (sym v.facts) (takes.selected, (takes.count, (takes.folds, takes.few))))

pub returns-then-not-avoids_all-clause-none : goal.returns-then-not-avoids_all-clause-none
returns-then-not-avoids_all-clause-none c = λ near s base made takes.
    let var = c.args.producer.now.var in
    let none : none_is var (parted_uses c.args.op) ≡ false = ap (none_is var) (sym (c.as_slice.ensures ∙ c.operands.ensures)) ∙ sym c.avoids_all.ensures ∙ c.if-not-avoids_all.true in
    let e : true ≡ false = sym ((list_decided var (parted_uses c.args.op)).1 takes.operation) ∙ none in
    absurd (cc)

pub returns-then-plans-clause-plan : goal.returns-then-plans-clause-plan
returns-then-plans-clause-plan c = λ s base made.
    let called = shapes_of c.args.called.now in
    let k = facts_of c.args.facts.now in
    let p = producer_of c.args.producer.now s base made in
    let parts = map part_term c.args.parts.now in
    let var = c.args.producer.now.var in
    let all = subst (λ rest. Building called k p parts rest c.loop-part.plans) (rest_none c.args.parts.now c.loop-part.part-index c.loop-part-test.false) (c.loop-part.invariant.so_far s base made) in
    let avoided : none_is var (parted_uses c.args.op) ≡ true = ap (none_is var) (sym (c.as_slice.ensures ∙ c.operands.ensures)) ∙ sym c.avoids_all.ensures ∙ c.if-not-avoids_all.false in
    record {
      selected = all.selected;
      count = c.loop-part.plans.count;
      folds = built called k p parts c.loop-part.plans all;
      used = all.used.0 c.if-plans.true;
      few = c.loop-part.invariant.few;
      operation = (list_decided var (parted_uses c.args.op)).0 avoided;
    }

pub returns-clause-none : goal.returns-clause-none
returns-clause-none c = λ near s base made takes.
    let called = shapes_of c.args.called.now in
    let k = facts_of c.args.facts.now in
    let p = producer_of c.args.producer.now s base made in
    let parts = map part_term c.args.parts.now in
    let all = subst (λ rest. Building called k p parts rest c.loop-part.plans) (rest_none c.args.parts.now c.loop-part.part-index c.loop-part-test.false) (c.loop-part.invariant.so_far s base made) in
    unused called k p parts c.loop-part.plans all c.if-plans.false takes.selected takes.count takes.folds takes.used

use Rattle.std.proofs.Common.{rules, ◌≡◌, ◌≤◌, ◌∙◌, sym, subst, refl, map, drop, ◌+◌, arith, true≢false, ℕ}
use Rattle.core_ir.specs.View.{part_term}
use Rattle.fact_table.specs.Table.{facts_of}
use Rattle.plain_facts.specs.Called.{shapes_of}
use Rattle.merge_plans.specs.Inners.{IsInner}
use Rattle.merge_plans.proofs.Counting.{SoFar, rest_is, rest_none, so_far_all, so_far_more, so_far_none, so_far_stuck}
use Rattle.merge_plans.proofs.planning.are_inner.Goals as goal

pub loop-part-init : goal.loop-part-init
loop-part-init c = record {
  facts = refl;
  few = omega arith;
  so_far = so_far_none (shapes_of c.args.called.now) (facts_of c.args.facts.now) c.args.frame.now c.args.base (map part_term c.args.parts.now);
}

pub loop-part-preserved : goal.loop-part-preserved
loop-part-preserved c =
    let called = shapes_of c.args.called.now in
    let k = facts_of c.args.facts.now in
    let v = c.loop-part.invariant in
    let i = c.loop-part.part-index in
    let parts = c.args.parts.now in
    let x = c.part-item.result in
    let frame = c.args.frame.now in
    let more : (m : ℕ) × (IsInner called (facts_of c.loop-part.facts) frame c.args.base (part_term x) m × (c.in-Some.more ≡ c.loop-part.count + m) × (c.in-Some.more ≤ 64)) = search rules in
    record {
      facts = c.in_ok-more.ensures.facts ∙ v.facts;
      few = more.1.2;
      so_far = so_far_more called k frame c.args.base (map part_term parts) (part_term x) (map part_term (drop (i + 1) parts)) c.loop-part.count c.in-Some.more
          (subst (λ f. (m : ℕ) × (IsInner called (facts_of f) frame c.args.base (part_term x) m × (c.in-Some.more ≡ c.loop-part.count + m) × (c.in-Some.more ≤ 64))) v.facts more)
          (subst (λ rest. SoFar called k frame c.args.base (map part_term parts) rest c.loop-part.count) (rest_is parts i x c.loop-part-test.true c.part-item.is) v.so_far);
    }

pub returns-in-None-clause-all : goal.returns-in-None-clause-all
returns-in-None-clause-all c = (
  λ t. absurd (true≢false (sym t)),
  λ h.
      let called = shapes_of c.args.called.now in
      let k = facts_of c.args.facts.now in
      let v = c.loop-part.invariant in
      let i = c.loop-part.part-index in
      let parts = c.args.parts.now in
      let x = c.part-item.result in
      let frame = c.args.frame.now in
      let none : (m : ℕ) → IsInner called (facts_of c.loop-part.facts) frame c.args.base (part_term x) m → c.loop-part.count + m ≤ 64 → ⊥ = search rules in
      absurd (so_far_stuck called k frame c.args.base (map part_term parts) (part_term x) (map part_term (drop (i + 1) parts)) c.loop-part.count
      (subst (λ f. (m : ℕ) → IsInner called (facts_of f) frame c.args.base (part_term x) m → c.loop-part.count + m ≤ 64 → ⊥) v.facts none)
      (subst (λ rest. SoFar called k frame c.args.base (map part_term parts) rest c.loop-part.count) (rest_is parts i x c.loop-part-test.true c.part-item.is) v.so_far) h),
)

pub returns-clause-all : goal.returns-clause-all
returns-clause-all c =
    let called = shapes_of c.args.called.now in
    let k = facts_of c.args.facts.now in
    let v = c.loop-part.invariant in
    let parts = map part_term c.args.parts.now in (
      λ t. so_far_all called k c.args.frame.now c.args.base parts c.loop-part.count
          (subst (λ rest. SoFar called k c.args.frame.now c.args.base parts rest c.loop-part.count) (rest_none c.args.parts.now c.loop-part.part-index c.loop-part-test.false) v.so_far) v.few,
      λ h. refl,
    )

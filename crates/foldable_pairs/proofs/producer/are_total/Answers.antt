use Rattle.std.proofs.Common.{◌≡◌, ◌↔◌, IsTrue, subst, ◌∙◌, true, false, sym, refl}
use Rattle.fact_table.specs.Table.{facts_of}
use Rattle.plain_facts.specs.Called.{shapes_of}
use Rattle.foldable_pairs.proofs.Totals.{Gives, total_on, total_back, total_none, total_end}
use Rattle.foldable_pairs.proofs.producer.are_total.Goals as goal

pub loop-part-preserved : goal.loop-part-preserved
loop-part-preserved c =
    let called = shapes_of c.args.called.now in
    let k = facts_of c.args.facts.now in
    let v = c.loop-part.invariant in
    let i = c.loop-part.part-index in
    let x = c.part-item.result in
    let gives = subst (λ f. IsTrue c.in_ok-is_total.field-0 ↔ Gives called (facts_of f) x) v.facts c.in_ok-is_total.ensures.total in
    record {
      facts = c.in_ok-is_total.ensures.facts ∙ v.facts;
      on = total_on called k c.args.parts.now i x c.loop-part-test.true c.part-item.is (gives.0 c.if-not-branch.false) v.on;
      back = total_back called k c.args.parts.now i x c.loop-part-test.true c.part-item.is v.back;
    }

pub returns-then-not-branch-clause-total : goal.returns-then-not-branch-clause-total
returns-then-not-branch-clause-total c =
    let called = shapes_of c.args.called.now in
    let k = facts_of c.args.facts.now in
    let v = c.loop-part.invariant in
    let x = c.part-item.result in
    let gives = subst (λ f. IsTrue c.in_ok-is_total.field-0 ↔ Gives called (facts_of f) x) v.facts c.in_ok-is_total.ensures.total in (
      λ t. absurd (let e : false ≡ true = t in cc),
      λ w. absurd (total_none called k c.args.parts.now c.loop-part.part-index x c.loop-part-test.true c.part-item.is
          (λ g. let e : true ≡ false = sym (gives.1 g) ∙ c.if-not-branch.true in cc) v.back w),
    )

pub returns-clause-total : goal.returns-clause-total
returns-clause-total c =
    (λ t. total_end (shapes_of c.args.called.now) (facts_of c.args.facts.now) c.args.parts.now c.loop-part.part-index c.loop-part-test.false c.loop-part.invariant.on, λ w. refl)

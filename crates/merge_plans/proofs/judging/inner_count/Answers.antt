use Rattle.std.proofs.Common.{◌≡◌, ◌∙◌, sym, subst, true≢false, Some}
use Rattle.core_ir.specs.View.{part_term}
use Rattle.fact_table.specs.Table.{facts_of}
use Rattle.plain_facts.specs.Called.{shapes_of}
use Rattle.merge_plans.specs.Inners.{IsInner}
use Rattle.merge_plans.specs.Openings.{nest_term, opened}
use Rattle.merge_plans.proofs.InnerLoops.{found_is, has_inner, inner_is, is_passed, none_is, none_opened}
use Rattle.merge_plans.proofs.judging.inner_count.Goals as goal

pub returns-in_default-clause-none : goal.returns-in_default-clause-none
returns-in_default-clause-none c =
    none_opened (shapes_of c.args.called.now) (facts_of c.args.facts.now) c.args.frame.now c.args.base (part_term c.args.part.now) (none_is c.nest_in.result _ c.nest_in.ensures c.in_default.is)

pub returns-then-not-is_inner_of-clause-none : goal.returns-then-not-is_inner_of-clause-none
returns-then-not-is_inner_of-clause-none c = λ count w.
    let p = part_term c.args.part.now in
    let is : opened p.body ≡ Some (nest_term c.in-Some.nest) = found_is c.nest_in.result _ c.in-Some.nest c.nest_in.ensures c.in-Some.is in
    let has = has_inner (shapes_of c.args.called.now) (facts_of c.args.facts.now) c.args.frame.now c.args.base p (nest_term c.in-Some.nest) is count w in
    absurd (true≢false (sym (c.is_inner_of.ensures.1 has) ∙ c.if-not-is_inner_of.true))

pub returns-then-not-has_room-clause-none : goal.returns-then-not-has_room-clause-none
returns-then-not-has_room-clause-none c = λ count w. absurd (true≢false (sym (c.has_room.ensures.1 w.room) ∙ c.if-not-has_room.true))

pub returns-then-branch-clause-some : goal.returns-then-branch-clause-some
returns-then-branch-clause-some c =
    let p = part_term c.args.part.now in
    let o = nest_term c.in-Some.nest in
    let called = shapes_of c.args.called.now in
    let k = facts_of c.args.facts.now in
    let is : opened p.body ≡ Some o = found_is c.nest_in.result _ c.in-Some.nest c.nest_in.ensures c.in-Some.is in
    subst (IsInner called k c.args.frame.now c.args.base p) (sym c.count_of.ensures)
    (inner_is called k c.args.frame.now c.args.base p o is (c.is_inner_of.ensures.0 c.if-not-is_inner_of.false) (c.has_room.ensures.0 c.if-not-has_room.false) (sym c.in_ok-is_passed.ensures.total ∙ c.if-branch.true))

pub returns-else-branch-clause-none : goal.returns-else-branch-clause-none
returns-else-branch-clause-none c = λ count w.
    let p = part_term c.args.part.now in
    let o = nest_term c.in-Some.nest in
    let is : opened p.body ≡ Some o = found_is c.nest_in.result _ c.in-Some.nest c.nest_in.ensures c.in-Some.is in
    absurd (true≢false (sym (is_passed (shapes_of c.args.called.now) (facts_of c.args.facts.now) c.args.frame.now c.args.base p o is count w) ∙ sym c.in_ok-is_passed.ensures.total ∙ c.if-branch.false))

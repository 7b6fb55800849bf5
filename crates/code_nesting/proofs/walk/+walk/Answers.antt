use Rattle.std.proofs.Common.{List, subst, sym}
use Rattle.counted_code.specs.declared.tree.CodeGen.{CodeGen}
use Rattle.counted_code.specs.declared.tree.CodePart.{CodePart}
use Rattle.counted_code.specs.declared.tree.CodeRight.{CodeRight}
use Rattle.counted_code.specs.declared.tree.CodeStep.{CodeStep}
use Rattle.counted_code.specs.View.{code_program, code_right_term}
use Rattle.code_nesting.specs.Needs.{GensNeed, PartsNeed, RightNeeds, StepsNeed}
use Rattle.counted_code.specs.Pieces.{gens_term, parts_term}
use Rattle.code_nesting.proofs.Needed.{block_needs, if_needs, loop_needs, with_needs, parted_needs, steps_turn, gens_turn, parts_turn, one_above, left_above, right_above}
use Rattle.code_nesting.proofs.walk.+walk.Goals as goal

pub block_need-returns : goal.block_need-returns
block_need-returns t c small =
    let code = code_program c.args.code.now in
    block_needs code c.args.below.now c.args.here.now c.args.block.now c.steps_need.result
    (subst (λ (ss : List CodeStep). StepsNeed code c.args.below.now c.args.here.now ss c.steps_need.result) c.deref.ensures.value (c.steps_need.ensures small))

pub gens_need-loop-generator-preserved : goal.gens_need-loop-generator-preserved
gens_need-loop-generator-preserved t c =
    gens_turn (code_program c.args.code.now) c.args.below.now c.args.here.now c.args.gens.now c.loop-generator.generator-index c.generator-item.result c.loop-generator.greatest
    c.block_need.result c.max-greatest.result c.loop-generator-test.true c.generator-item.is c.block_need.ensures c.max-greatest.ensures c.loop-generator.invariant

pub parted_need-returns : goal.parted_need-returns
parted_need-returns t c small =
    let code = code_program c.args.code.now in
    parted_needs code c.args.below.now c.args.here.now c.args.parted.now c.parts_need.result c.saturating_add.result
    (λ within. subst (λ (ps : List CodePart). PartsNeed code c.args.below.now c.args.here.now (parts_term ps) c.parts_need.result) c.deref.ensures.value (c.parts_need.ensures within))
    small (one_above c.parts_need.result c.saturating_add.result c.saturating_add.ensures small)

pub parts_need-loop-part-preserved : goal.parts_need-loop-part-preserved
parts_need-loop-part-preserved t c =
    parts_turn (code_program c.args.code.now) c.args.below.now c.args.here.now c.args.parts.now c.loop-part.part-index c.part-item.result c.loop-part.greatest
    c.block_need.result c.max-greatest.result c.loop-part-test.true c.part-item.is c.block_need.ensures c.max-greatest.ensures c.loop-part.invariant

pub right_need-returns-in-If : goal.right_need-returns-in-If
right_need-returns-in-If t c small =
    let code = code_program c.args.code.now in
    let i = c.in-If in
    let first = c.block_need-first in
    let second = c.block_need-second in
    let above = one_above c.max.result c.saturating_add.result c.saturating_add.ensures small in
    subst (λ (r : CodeRight). RightNeeds code c.args.below.now c.args.here.now (code_right_term r) c.saturating_add.result) (sym i.is)
    (if_needs code c.args.below.now c.args.here.now i.cond i.yes i.no first.result second.result c.saturating_add.result first.ensures second.ensures small
    (left_above first.result second.result c.max.result c.saturating_add.result c.max.ensures above)
    (right_above first.result second.result c.max.result c.saturating_add.result c.max.ensures above))

pub right_need-returns-in-Loop : goal.right_need-returns-in-Loop
right_need-returns-in-Loop t c small =
    let code = code_program c.args.code.now in
    let l = c.in-Loop in
    let first = c.block_need-first-in-Loop in
    let second = c.block_need-second-in-Loop in
    let most = c.max-in-Loop in
    let sum = c.saturating_add-in-Loop in
    let above = one_above most.result sum.result sum.ensures small in
    subst (λ (r : CodeRight). RightNeeds code c.args.below.now c.args.here.now (code_right_term r) sum.result) (sym l.is)
    (loop_needs code c.args.below.now c.args.here.now l.first_body l.start l.params l.test l.body l.test_site first.result second.result sum.result first.ensures second.ensures small
    (left_above first.result second.result most.result sum.result most.ensures above)
    (right_above first.result second.result most.result sum.result most.ensures above))

pub steps_need-loop-step-preserved : goal.steps_need-loop-step-preserved
steps_need-loop-step-preserved t c =
    steps_turn (code_program c.args.code.now) c.args.below.now c.args.here.now c.args.steps.now c.loop-step.step-index c.step-item.result c.loop-step.greatest
    c.step_need.result c.max-greatest.result c.loop-step-test.true c.step-item.is c.step_need.ensures c.max-greatest.ensures c.loop-step.invariant

pub with_need-returns : goal.with_need-returns
with_need-returns t c small =
    let code = code_program c.args.code.now in
    with_needs code c.args.below.now c.args.here.now c.args.with.now c.gens_need.result c.saturating_add.result
    (λ within. subst (λ (gs : List CodeGen). GensNeed code c.args.below.now c.args.here.now (gens_term gs) c.gens_need.result) c.deref.ensures.value (c.gens_need.ensures within))
    small (one_above c.gens_need.result c.saturating_add.result c.saturating_add.ensures small)

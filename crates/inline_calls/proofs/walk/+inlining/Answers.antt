use Rattle.std.proofs.Common.{arith, map, take, ap, subst, refl, ◌∙◌, ◌+◌, [], ◌∷◌, Option, IfSome, IfNone}
use Rattle.core_ir.specs.declared.tree.CoreGen.{out-CoreGen}
use Rattle.core_ir.specs.declared.tree.CorePart.{out-CorePart}
use Rattle.core_ir.specs.View.{core_term, block_term, let_term, right_term, gen_term, part_term}
use Rattle.inline_calls.proofs.Turns.{SoFar, GensSoFar, PartsSoFar, taken_more, taken_all, let_turn, block_whole, gen_turn, with_whole, part_turn, parted_whole, gen_whole, part_whole, both_branches, both_blocks, has_no_block, copy_stays, binding_kept}
use Rattle.inline_calls.proofs.Steps.{map_snoc, map_both}
use Rattle.inline_calls.specs.Bindings.{LetInlined, MayStay}
use Rattle.inline_calls.specs.declared.call.Inlined.{Inlined}
use Rattle.core_ir.specs.Terms.{LetTerm}
use Rattle.inline_calls.proofs.walk.+inlining.Goals as goal

pub inline_block-loop-binding-preserved : goal.inline_block-loop-binding-preserved
inline_block-loop-binding-preserved t c =
    let items = c.deref-binding-items.result.now in
    let k = c.loop-binding.binding-index in
    let step = c.in_ok-push_binding.ensures in
    let_turn (core_term c.args.work.now.core.now) c.args.growth.now c.loop-binding.growth c.push_binding.new.growth (map let_term (take k items)) (map let_term (take (k + 1) items)) (map let_term c.loop-binding.lets.items) step.0 (map let_term c.push_binding.new.lets.items) (let_term c.binding-item.result)
    c.loop-binding.invariant step.1.1 (taken_more let_term items k c.binding-item.result c.loop-binding-test.true c.binding-item.is) step.1.0

pub inline_block-returns : goal.inline_block-returns
inline_block-returns t c =
    let items = c.deref-binding-items.result.now in
    let all = taken_all let_term items _ c.loop-binding.binding-index (omega (arith, c.loop-binding-test.false)) c.deref-binding-items.ensures.value in
    block_whole (core_term c.args.work.now.core.now) c.args.growth.now c.loop-binding.growth _ c.args.block.now (subst (λ ls. SoFar (core_term c.args.work.now.core.now) c.args.growth.now ls (map let_term c.loop-binding.lets.items) c.loop-binding.growth) all c.loop-binding.invariant)
    (c.in_ok-copy_vars.ensures ∙ c.deref.ensures.value)

pub inline_parted-loop-part-preserved : goal.inline_parted-loop-part-preserved
inline_parted-loop-part-preserved t c =
    let items = c.deref-part-items.result.now in
    let k = c.loop-part.part-index in
    part_turn (core_term c.args.work.now.core.now) c.args.growth.now c.loop-part.growth c.inline_part.new.growth (map part_term (take k items)) (map part_term (take (k + 1) items)) (map part_term c.loop-part.parts.items) (map part_term c.push.new.self.items) (part_term c.part-item.result) (part_term c.in_ok-inline_part.field-0)
    c.loop-part.invariant c.in_ok-inline_part.ensures (taken_more part_term items k c.part-item.result c.loop-part-test.true c.part-item.is) (ap (map part_term) c.in_ok-push.ensures.items ∙ map_snoc part_term c.loop-part.parts.items c.in_ok-inline_part.field-0)

pub inline_parted-returns : goal.inline_parted-returns
inline_parted-returns t c =
    let items = c.deref-part-items.result.now in
    let all = taken_all part_term items _ c.loop-part.part-index (omega (arith, c.loop-part-test.false)) c.deref-part-items.ensures.value in
    parted_whole (core_term c.args.work.now.core.now) c.args.growth.now c.loop-part.growth _ c.args.parted.now (subst (λ ls. PartsSoFar (core_term c.args.work.now.core.now) c.args.growth.now ls (map part_term c.loop-part.parts.items) c.loop-part.growth) all c.loop-part.invariant)
    c.in_ok-frame.ensures refl c.copy-cell.ensures refl

pub inline_with-loop-generator-preserved : goal.inline_with-loop-generator-preserved
inline_with-loop-generator-preserved t c =
    let items = c.deref-generator-items.result.now in
    let k = c.loop-generator.generator-index in
    gen_turn (core_term c.args.work.now.core.now) c.args.growth.now c.loop-generator.growth c.inline_gen.new.growth (map gen_term (take k items)) (map gen_term (take (k + 1) items)) (map gen_term c.loop-generator.gens.items) (map gen_term c.push.new.self.items) (gen_term c.generator-item.result) (gen_term c.in_ok-inline_gen.field-0)
    c.loop-generator.invariant c.in_ok-inline_gen.ensures (taken_more gen_term items k c.generator-item.result c.loop-generator-test.true c.generator-item.is) (ap (map gen_term) c.in_ok-push.ensures.items ∙ map_snoc gen_term c.loop-generator.gens.items c.in_ok-inline_gen.field-0)

pub inline_with-returns : goal.inline_with-returns
inline_with-returns t c =
    let items = c.deref-generator-items.result.now in
    let all = taken_all gen_term items _ c.loop-generator.generator-index (omega (arith, c.loop-generator-test.false)) c.deref-generator-items.ensures.value in
    with_whole (core_term c.args.work.now.core.now) c.args.growth.now c.loop-generator.growth _ c.args.with.now (subst (λ ls. GensSoFar (core_term c.args.work.now.core.now) c.args.growth.now ls (map gen_term c.loop-generator.gens.items) c.loop-generator.growth) all c.loop-generator.invariant) refl

pub inline_gen-returns : goal.inline_gen-returns
inline_gen-returns t c =
    let g = out-CoreGen c.args.generator.now in
    let names = c.in_ok-copy_vars.ensures ∙ c.deref.ensures.value in
    gen_whole (core_term c.args.work.now.core.now) c.args.growth.now c.inline_block.new.growth _ c.args.generator.now
    (λ i. record { lower = g.lower; lower_closed = g.lower_closed; upper = g.upper; upper_closed = g.upper_closed; step = g.step; width = g.width; index = g.index; names = names i; site = g.site }) c.in_ok-inline_block.ensures

pub inline_part-returns : goal.inline_part-returns
inline_part-returns t c =
    let p = out-CorePart c.args.part.now in
    part_whole (core_term c.args.work.now.core.now) c.args.growth.now c.inline_block.new.growth _ c.args.part.now (λ i. record { grid = c.in_ok-copy.ensures i; index = p.index; site = p.site }) c.in_ok-inline_block.ensures

pub push_binding-returns-in_ok-append-in-Some : goal.push_binding-returns-in_ok-append-in-Some
push_binding-returns-in_ok-append-in-Some t c =
    let inlined = c.in-Some.inlined in
    let is = subst (λ (o : Option Inlined). IfSome o (λ i. LetInlined (core_term c.args.work.now.core.now) c.args.growth.now (let_term c.args.binding.now) (map let_term i.lets.items) i.growth)) c.in-Some.is c.in_ok-inlined.ensures.placed in
    (map let_term inlined.lets.items, (ap (map let_term) c.in_ok-append-in-Some.ensures.items ∙ map_both let_term c.args.lets.now.items inlined.lets.items, is))

pub push_binding-returns-in_ok-push-in-None : goal.push_binding-returns-in_ok-push-in-None
push_binding-returns-in_ok-push-in-None t c =
    let core = core_term c.args.work.now.core.now in
    let old = let_term c.args.binding.now in
    let new : LetTerm = record { targets = c.in_ok-copy_vars-in-None.field-0.items; site = c.args.binding.now.site; right = right_term c.in_ok-right-in-None.right } in
    let stays = subst (λ (o : Option Inlined). IfNone o (MayStay core c.args.growth.now old.right)) c.in-None.is c.in_ok-inlined.ensures.left in
    (new ∷ [], (ap (map let_term) c.in_ok-push-in-None.ensures.items ∙ map_snoc let_term c.args.lets.now.items _, binding_kept core c.args.growth.now c.inline_right.new.growth old new (c.in_ok-copy_vars-in-None.ensures ∙ c.deref.ensures.value) refl (c.in_ok-right-in-None.ensures stays)))

pub inline_right-returns-in_ok-inline_block-in-If-2 : goal.inline_right-returns-in_ok-inline_block-in-If-2
inline_right-returns-in_ok-inline_block-in-If-2 t c =
    λ m. both_branches (core_term c.args.work.now.core.now) c.args.growth.now c.inline_block.new.growth c.inline_block-in-If.new.growth (right_term c.args.right.now) c.in-If.cond (block_term c.in-If.yes) (block_term c.in-If.no) _ _ (ap right_term c.in-If.is) c.in_ok-inline_block-in-If.ensures c.in_ok-inline_block-in-If-2.ensures

pub inline_right-returns-in_ok-inline_block-in-Loop-2 : goal.inline_right-returns-in_ok-inline_block-in-Loop-2
inline_right-returns-in_ok-inline_block-in-Loop-2 t c =
    λ m. both_blocks (core_term c.args.work.now.core.now) c.args.growth.now c.inline_block-in-Loop.new.growth c.inline_block-in-Loop-2.new.growth (right_term c.args.right.now) c.in-Loop.first_body c.in-Loop.start.items _ c.in-Loop.params.items _ (block_term c.in-Loop.test) (block_term c.in-Loop.body) _ _ c.in-Loop.test_site
    (ap right_term c.in-Loop.is) (c.in_ok-copy_vars-in-Loop.ensures ∙ c.deref.ensures.value) (c.in_ok-copy_vars-in-Loop-2.ensures ∙ c.deref-in-Loop.ensures.value) c.in_ok-inline_block-in-Loop.ensures c.in_ok-inline_block-in-Loop-2.ensures

pub inline_right-returns-in_default : goal.inline_right-returns-in_default
inline_right-returns-in_default t c =
    let arm = c.in_default in
    copy_stays (core_term c.args.work.now.core.now) c.args.growth.now (right_term c.args.right.now) c.copy_right.result (has_no_block c.args.right.now arm.not-If arm.not-Loop arm.not-With arm.not-Parted) c.copy_right.ensures

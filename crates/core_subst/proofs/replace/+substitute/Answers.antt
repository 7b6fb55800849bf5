use Rattle.std.proofs.Common.{rules, List, ◌∙◌, map, refl}
use Rattle.core_ir.specs.declared.tree.Var.{Var}
use Rattle.core_ir.specs.declared.tree.PartedLoop.{out-PartedLoop}
use Rattle.core_ir.specs.declared.tree.WithLoop.{out-WithLoop}
use Rattle.core_subst.specs.Substitution.{image, core_op_with, parted_op_with}
use Rattle.core_subst.proofs.Hiding.{below_same, front_kept}
use Rattle.core_subst.proofs.Steps.{let_turn, gen_turn, part_turn, none_left, block_end, with_end, parted_end}
use Rattle.core_subst.proofs.replace.+substitute.Goals as goal

pub in_block-loop-binding-preserved : goal.in_block-loop-binding-preserved
in_block-loop-binding-preserved t c =
    let v = c.loop-binding.invariant in
    let m = c.args.partners.now in
    let shown = below_same m _ _ _ _ _ c.in_ok-right.ensures.hidden refl c.in_ok-place.ensures.below in
    record {
      replaced = λ end. let_turn (image m c.loop-binding.hidden.items) _ c.loop-binding.replaced.items _ c.loop-binding.binding-iterator.rest.items _ c.in-Some.binding _ end _ (v.replaced end) c.in-Some.ensures.steps.0 c.in_ok-place.ensures.placed (λ i. record { targets = c.in-Some.binding.targets.items; site = c.in-Some.binding.site; right = c.in_ok-right.ensures.replaced i }) shown;
      outer = front_kept _ c.loop-binding.hidden.items _ _ _ v.outer (search rules) c.in_ok-right.ensures.hidden c.in_ok-place.ensures.outer;
    }

pub in_block-returns-clause-replaced : goal.in_block-returns-clause-replaced
in_block-returns-clause-replaced t c =
    let none = none_left c.loop-binding.binding-iterator.rest.len c.loop-binding.binding-iterator.rest.items c.in-None.ensures.steps.0 c.loop-binding.binding-iterator.rest.ok.0 in
    block_end (image c.args.partners.now c.loop-binding.hidden.items) (image c.args.partners.now c.args.hidden.now.items) c.loop-binding.binding-iterator.rest.items _ _ _ c.args.block c.loop-binding.invariant.replaced none c.into_iter-binding-iterator.ensures.into_iter_gives.0 (c.in_ok-results.ensures ∙ (λ i. map (image c.args.partners.now (c.deref-2.ensures.value i)) c.deref.result.now)) c.deref.ensures.value

pub in_parted-loop-part-preserved : goal.in_parted-loop-part-preserved
in_parted-loop-part-preserved t c =
    let v = c.loop-part.invariant in
    record {
      replaced = part_turn (image c.args.partners.now c.args.hidden.now.items) (image c.args.partners.now c.loop-part.hidden.items) c.loop-part.replaced.items _ c.loop-part.part-iterator.rest.items _ c.in-Some.part _ _ v.replaced c.in-Some.ensures.steps.0 c.in_ok-push.ensures.items c.in_ok-in_part.ensures.replaced (λ i. image c.args.partners.now (v.hidden i));
      hidden = ◌∙◌ {A = List Var} c.in_ok-in_part.ensures.hidden c.loop-part.invariant.hidden;
    }

pub in_parted-returns-clause-replaced : goal.in_parted-returns-clause-replaced
in_parted-returns-clause-replaced t c =
    let none = none_left c.loop-part.part-iterator.rest.len c.loop-part.part-iterator.rest.items c.in-None.ensures.steps.0 c.loop-part.part-iterator.rest.ok.0 in
    parted_end (image c.args.partners.now c.args.hidden.now.items) c.loop-part.part-iterator.rest.items _ _ c.args.parted c.loop-part.invariant.replaced none c.into_iter-part-iterator.ensures.into_iter_gives.0 (c.in_parted_op.ensures ∙ (λ i. parted_op_with (image c.args.partners.now ((c.deref.ensures.value ∙ c.loop-part.invariant.hidden) i)) (out-PartedLoop c.args.parted).op)) refl refl refl

pub in_with-loop-generator-preserved : goal.in_with-loop-generator-preserved
in_with-loop-generator-preserved t c =
    let v = c.loop-generator.invariant in
    record {
      replaced = gen_turn (image c.args.partners.now c.args.hidden.now.items) (image c.args.partners.now c.loop-generator.hidden.items) c.loop-generator.replaced.items _ c.loop-generator.generator-iterator.rest.items _ c.in-Some.generator _ _ v.replaced c.in-Some.ensures.steps.0 c.in_ok-push.ensures.items c.in_ok-in_gen.ensures.replaced (λ i. image c.args.partners.now (v.hidden i));
      hidden = ◌∙◌ {A = List Var} c.in_ok-in_gen.ensures.hidden c.loop-generator.invariant.hidden;
    }

pub in_with-returns-clause-replaced : goal.in_with-returns-clause-replaced
in_with-returns-clause-replaced t c =
    let none = none_left c.loop-generator.generator-iterator.rest.len c.loop-generator.generator-iterator.rest.items c.in-None.ensures.steps.0 c.loop-generator.generator-iterator.rest.ok.0 in
    with_end (image c.args.partners.now c.args.hidden.now.items) c.loop-generator.generator-iterator.rest.items _ _ c.args.with c.loop-generator.invariant.replaced none c.into_iter-generator-iterator.ensures.into_iter_gives.0 (c.in_op.ensures ∙ (λ i. core_op_with (image c.args.partners.now ((c.deref.ensures.value ∙ c.loop-generator.invariant.hidden) i)) (out-WithLoop c.args.with).op))

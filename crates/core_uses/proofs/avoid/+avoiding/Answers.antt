use Rattle.std.proofs.Common.{◌∙◌, ap, sym, refl}
use Rattle.core_ir.specs.declared.tree.Let.{Let}
use Rattle.core_ir.specs.declared.tree.CoreGen.{CoreGen}
use Rattle.core_ir.specs.declared.tree.CorePart.{CorePart}
use Rattle.core_ir.specs.View.{right_term, gen_term, part_term}
use Rattle.core_uses.specs.Tests.{none_is, is_avoided_right, gen_avoided, part_avoided}
use Rattle.core_uses.proofs.Turns.{passed, failed, ended}
use Rattle.core_uses.proofs.Decided.{lets_avoided, gens_avoided, parts_avoided, block_is, with_head, with_all, parted_head, parted_all}
use Rattle.core_uses.proofs.avoid.+avoiding.Goals as goal

pub avoids-loop-binding-preserved : goal.avoids-loop-binding-preserved
avoids-loop-binding-preserved t c = λ rs.
    passed (λ (l : Let). is_avoided_right c.args.x (right_term l.right)) (lets_avoided c.args.x rs) (λ y ys. refl) c.deref-binding-items.result.now c.loop-binding.binding-index
    c.binding-item.result _ c.loop-binding-test.true c.binding-item.is (sym c.avoids_right.ensures ∙ c.if-not-avoids_right.false) (c.loop-binding.invariant rs)

pub avoids-returns-then-not-avoids_right : goal.avoids-returns-then-not-avoids_right
avoids-returns-then-not-avoids_right t c =
    let rs = (Rattle.core_ir.specs.declared.tree.Block.out-Block c.args.block.now).results.items in
    sym (failed (λ (l : Let). is_avoided_right c.args.x (right_term l.right)) (lets_avoided c.args.x rs) (λ y ys. refl) c.deref-binding-items.result.now c.loop-binding.binding-index
    c.binding-item.result _ c.loop-binding-test.true c.binding-item.is (sym c.avoids_right.ensures ∙ c.if-not-avoids_right.true) (c.loop-binding.invariant rs))
    ∙ ap (lets_avoided c.args.x rs) c.deref-binding-items.ensures.value
    ∙ sym (block_is c.args.x c.args.block.now)

pub avoids-returns : goal.avoids-returns
avoids-returns t c =
    let rs = (Rattle.core_ir.specs.declared.tree.Block.out-Block c.args.block.now).results.items in
    c.avoids_all.ensures
    ∙ ap (none_is c.args.x) c.deref.ensures.value
    ∙ sym (ended (λ (l : Let). is_avoided_right c.args.x (right_term l.right)) (lets_avoided c.args.x rs) (λ y ys. refl) c.deref-binding-items.result.now c.loop-binding.binding-index
    _ c.loop-binding-test.false (c.loop-binding.invariant rs))
    ∙ ap (lets_avoided c.args.x rs) c.deref-binding-items.ensures.value
    ∙ sym (block_is c.args.x c.args.block.now)

pub avoids_with-loop-generator-preserved : goal.avoids_with-loop-generator-preserved
avoids_with-loop-generator-preserved t c =
    passed (λ (g : CoreGen). gen_avoided c.args.x (gen_term g)) (gens_avoided c.args.x) (λ y ys. refl) c.deref-generator-items.result.now c.loop-generator.generator-index
    c.generator-item.result _ c.loop-generator-test.true c.generator-item.is (sym c.avoids_gen.ensures ∙ c.if-not-avoids_gen.false) c.loop-generator.invariant

pub avoids_with-returns-then-not-avoids_gen : goal.avoids_with-returns-then-not-avoids_gen
avoids_with-returns-then-not-avoids_gen t c =
    sym (with_head c.args.x c.args.with.now _ refl
    (sym (ap (gens_avoided c.args.x) c.deref-generator-items.ensures.value)
    ∙ failed (λ (g : CoreGen). gen_avoided c.args.x (gen_term g)) (gens_avoided c.args.x) (λ y ys. refl) c.deref-generator-items.result.now c.loop-generator.generator-index
    c.generator-item.result _ c.loop-generator-test.true c.generator-item.is (sym c.avoids_gen.ensures ∙ c.if-not-avoids_gen.true) c.loop-generator.invariant))

pub avoids_with-returns : goal.avoids_with-returns
avoids_with-returns t c =
    with_all c.args.x c.args.with.now (ap (none_is c.args.x) (sym (c.as_slice.ensures ∙ c.operands.ensures)) ∙ sym c.avoids_all.ensures ∙ c.if-not-avoids_all.false)
    (ap (gens_avoided c.args.x) (sym c.deref-generator-items.ensures.value)
    ∙ ended (λ (g : CoreGen). gen_avoided c.args.x (gen_term g)) (gens_avoided c.args.x) (λ y ys. refl) c.deref-generator-items.result.now c.loop-generator.generator-index
    _ c.loop-generator-test.false c.loop-generator.invariant)

pub avoids_parted-loop-part-preserved : goal.avoids_parted-loop-part-preserved
avoids_parted-loop-part-preserved t c =
    passed (λ (g : CorePart). part_avoided c.args.x (part_term g)) (parts_avoided c.args.x) (λ y ys. refl) c.deref-part-items.result.now c.loop-part.part-index
    c.part-item.result _ c.loop-part-test.true c.part-item.is (sym c.avoids_part.ensures ∙ c.if-not-avoids_part.false) c.loop-part.invariant

pub avoids_parted-returns-then-not-avoids_part : goal.avoids_parted-returns-then-not-avoids_part
avoids_parted-returns-then-not-avoids_part t c =
    sym (parted_head c.args.x c.args.parted.now _ refl
    (sym (ap (parts_avoided c.args.x) c.deref-part-items.ensures.value)
    ∙ failed (λ (g : CorePart). part_avoided c.args.x (part_term g)) (parts_avoided c.args.x) (λ y ys. refl) c.deref-part-items.result.now c.loop-part.part-index
    c.part-item.result _ c.loop-part-test.true c.part-item.is (sym c.avoids_part.ensures ∙ c.if-not-avoids_part.true) c.loop-part.invariant))

pub avoids_parted-returns : goal.avoids_parted-returns
avoids_parted-returns t c =
    parted_all c.args.x c.args.parted.now (ap (none_is c.args.x) (sym (c.as_slice.ensures ∙ c.operands.ensures)) ∙ sym c.avoids_all.ensures ∙ c.if-not-avoids_all.false)
    (ap (parts_avoided c.args.x) (sym c.deref-part-items.ensures.value)
    ∙ ended (λ (g : CorePart). part_avoided c.args.x (part_term g)) (parts_avoided c.args.x) (λ y ys. refl) c.deref-part-items.result.now c.loop-part.part-index
    _ c.loop-part-test.false c.loop-part.invariant)

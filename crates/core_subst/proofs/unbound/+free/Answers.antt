use Rattle.std.proofs.Common.{◌≡◌, refl, sym, ap, subst, ◌∙◌, [], ◌∷◌, ◌++◌, arith}
use Rattle.std.specs.Result.{OnOk}
use Rattle.core_ir.specs.declared.tree.Block.{out-Block}
use Rattle.core_ir.specs.declared.tree.WithLoop.{out-WithLoop}
use Rattle.core_ir.specs.declared.tree.PartedLoop.{out-PartedLoop}
use Rattle.core_ir.specs.Scopes.{op_uses, parted_uses, head_uses}
use Rattle.core_ir.specs.View.{right_term, gen_term, part_term}
use Rattle.core_ir.specs.Binders.{bound_in, bound_in_right}
use Rattle.core_subst.specs.Names.{used_in, used_in_right}
use Rattle.core_subst.proofs.Occurrences.{lets_used, lets_bound, gens_used, gens_bound, parts_used, parts_bound, all_met, two, turned, let_uses, let_binds, gen_uses, gen_binds, part_uses, part_binds, in_two, glued, on_ok, ended_used, block_bound, with_used, with_bound, parted_used, parted_bound}
use Rattle.core_subst.proofs.unbound.+free.Goals as goal

pub meet_block-loop-binding-preserved : goal.meet_block-loop-binding-preserved
meet_block-loop-binding-preserved t c =
    let x = c.binding-item.result in
    let v = c.loop-binding.invariant in
    record {
      used = turned lets_used (λ y. used_in_right (right_term y.right)) c.deref-binding-items.result.now c.loop-binding.binding-index x c.loop-binding.met.used.items c.meet_right.new.met.used.items _ let_uses (omega arith) c.binding-item.is v.used c.in_ok-meet_right.ensures.used;
      bound = turned lets_bound (λ y. y.targets.items ++ bound_in_right (right_term y.right)) c.deref-binding-items.result.now c.loop-binding.binding-index x c.loop-binding.met.bound.items c.meet_right.new.met.bound.items _ let_binds (omega arith) c.binding-item.is v.bound
          (in_two c.loop-binding.met.bound.items c.add.new.vars.items c.meet_right.new.met.bound.items x.targets.items (bound_in_right (right_term x.right)) (c.in_ok-add.ensures ∙ ap (λ l. c.loop-binding.met.bound.items ++ l) c.deref.ensures.value) c.in_ok-meet_right.ensures.bound);
    }

pub meet_block-returns-clause-used : goal.meet_block-returns-clause-used
meet_block-returns-clause-used t c =
    let b = c.args.block.now in
    let met = all_met lets_used c.loop-binding.met.used.items c.args.met.now.used.items c.loop-binding.binding-index c.deref-binding-items.result.now (out-Block b).lets.items refl c.loop-binding.invariant.used c.loop-binding-test.false c.deref-binding-items.ensures.value in
    subst (λ m. OnOk c.add-2.result (c.add-2.new.vars.items ≡ m)) (ended_used b c.args.met.now.used.items c.loop-binding.met.used.items c.deref-2.result.now met c.deref-2.ensures.value) c.add-2.ensures

pub meet_block-returns-clause-bound : goal.meet_block-returns-clause-bound
meet_block-returns-clause-bound t c =
    let b = c.args.block.now in
    let met = all_met lets_bound c.loop-binding.met.bound.items c.args.met.now.bound.items c.loop-binding.binding-index c.deref-binding-items.result.now (out-Block b).lets.items refl c.loop-binding.invariant.bound c.loop-binding-test.false c.deref-binding-items.ensures.value in
    on_ok c.add-2.result _ (met ∙ ap (λ l. c.args.met.now.bound.items ++ l) (sym (block_bound b)))

pub meet_with-loop-generator-preserved : goal.meet_with-loop-generator-preserved
meet_with-loop-generator-preserved t c =
    let x = c.generator-item.result in
    let v = c.loop-generator.invariant in
    record {
      used = turned gens_used (λ y. head_uses (gen_term y).head ++ used_in (gen_term y).body) c.deref-generator-items.result.now c.loop-generator.generator-index x c.loop-generator.met.used.items c.meet_generator.new.met.used.items _ gen_uses (omega arith) c.generator-item.is v.used c.in_ok-meet_generator.ensures.used;
      bound = turned gens_bound (λ y. ((gen_term y).head.index ∷ (gen_term y).head.names) ++ bound_in (gen_term y).body) c.deref-generator-items.result.now c.loop-generator.generator-index x c.loop-generator.met.bound.items c.meet_generator.new.met.bound.items _ gen_binds (omega arith) c.generator-item.is v.bound c.in_ok-meet_generator.ensures.bound;
    }

pub meet_with-returns-clause-used : goal.meet_with-returns-clause-used
meet_with-returns-clause-used t c =
    let w = c.args.with.now in
    let gens = (out-WithLoop w).gens.items in
    all_met gens_used c.loop-generator.met.used.items c.add.new.vars.items c.loop-generator.generator-index c.deref-generator-items.result.now gens refl c.loop-generator.invariant.used c.loop-generator-test.false c.deref-generator-items.ensures.value
    ∙ (λ i. (c.in_ok-add.ensures ∙ ap (λ l. c.args.met.now.used.items ++ l) (c.as_slice.ensures ∙ c.operands.ensures)) i ++ gens_used gens)
    ∙ two c.args.met.now.used.items (op_uses (out-WithLoop w).op) (gens_used gens) _ (with_used w)

pub meet_with-returns-clause-bound : goal.meet_with-returns-clause-bound
meet_with-returns-clause-bound t c =
    let w = c.args.with.now in
    all_met gens_bound c.loop-generator.met.bound.items c.args.met.now.bound.items c.loop-generator.generator-index c.deref-generator-items.result.now (out-WithLoop w).gens.items refl c.loop-generator.invariant.bound c.loop-generator-test.false c.deref-generator-items.ensures.value
    ∙ ap (λ l. c.args.met.now.bound.items ++ l) (sym (with_bound w))

pub meet_parted-loop-part-preserved : goal.meet_parted-loop-part-preserved
meet_parted-loop-part-preserved t c =
    let x = c.part-item.result in
    let v = c.loop-part.invariant in
    record {
      used = turned parts_used (λ y. used_in (part_term y).body) c.deref-part-items.result.now c.loop-part.part-index x c.loop-part.met.used.items c.meet_part.new.met.used.items _ part_uses (omega arith) c.part-item.is v.used c.in_ok-meet_part.ensures.used;
      bound = turned parts_bound (λ y. ((part_term y).head.index ∷ []) ++ bound_in (part_term y).body) c.deref-part-items.result.now c.loop-part.part-index x c.loop-part.met.bound.items c.meet_part.new.met.bound.items _ part_binds (omega arith) c.part-item.is v.bound c.in_ok-meet_part.ensures.bound;
    }

pub meet_parted-returns-clause-used : goal.meet_parted-returns-clause-used
meet_parted-returns-clause-used t c =
    let w = c.args.parted.now in
    let parts = (out-PartedLoop w).parts.items in
    all_met parts_used c.loop-part.met.used.items c.add.new.vars.items c.loop-part.part-index c.deref-part-items.result.now parts refl c.loop-part.invariant.used c.loop-part-test.false c.deref-part-items.ensures.value
    ∙ (λ i. (c.in_ok-add.ensures ∙ ap (λ l. c.args.met.now.used.items ++ l) (c.as_slice.ensures ∙ c.operands.ensures)) i ++ parts_used parts)
    ∙ two c.args.met.now.used.items (parted_uses (out-PartedLoop w).op) (parts_used parts) _ (parted_used w)

pub meet_parted-returns-clause-bound : goal.meet_parted-returns-clause-bound
meet_parted-returns-clause-bound t c =
    let w = c.args.parted.now in
    all_met parts_bound c.loop-part.met.bound.items c.args.met.now.bound.items c.loop-part.part-index c.deref-part-items.result.now (out-PartedLoop w).parts.items refl c.loop-part.invariant.bound c.loop-part-test.false c.deref-part-items.ensures.value
    ∙ ap (λ l. c.args.met.now.bound.items ++ l) (sym (parted_bound w))

pub meet_after-returns-clause-used : goal.meet_after-returns-clause-used
meet_after-returns-clause-used t c =
    subst (λ m. OnOk c.meet_block.result (c.meet_block.new.met.used.items ≡ m)) (glued c.args.met.now.used.items c.add.new.vars.items c.args.used.now _ c.in_ok-add.ensures) c.meet_block.ensures.used

pub meet_after-returns-clause-bound : goal.meet_after-returns-clause-bound
meet_after-returns-clause-bound t c =
    subst (λ m. OnOk c.meet_block.result (c.meet_block.new.met.bound.items ≡ m)) (glued c.args.met.now.bound.items c.add-2.new.vars.items c.args.bound.now _ c.in_ok-add-2.ensures) c.meet_block.ensures.bound

use Rattle.std.proofs.Common.{refl, arith, ap, sym, ◌∙◌}
use Rattle.core_ir.specs.declared.tree.WithLoop.{out-WithLoop}
use Rattle.core_ir.specs.declared.tree.PartedLoop.{out-PartedLoop}
use Rattle.core_ir.specs.Scopes.{op_uses, parted_uses}
use Rattle.core_subst.specs.Names.{above_all}
use Rattle.core_subst.proofs.Above.{lets_above, gens_above, parts_above, ended, turned, started, block_above, with_above, parted_above}
use Rattle.core_subst.proofs.greatest.+fresh.Goals as goal

pub above_block-returns : goal.above_block-returns
above_block-returns t c =
    turned c.loop-binding.number c.above_vars-number.result (lets_above _) (above_all _)
    (ended lets_above c.loop-binding.number c.above_vars-number.result c.loop-binding.binding-index c.deref-binding-items.result.now _ refl c.loop-binding.invariant (omega arith) c.deref-binding-items.ensures.value)
    (c.above_vars-number.ensures ∙ ap above_all c.deref.ensures.value)
    ∙ sym (block_above c.args.block.now)

pub above_with-returns : goal.above_with-returns
above_with-returns t c =
    let w = out-WithLoop c.args.with.now in
    started c.loop-generator.number c.above_vars-number.result (above_all (op_uses w.op)) (gens_above w.gens.items)
    (ended gens_above c.loop-generator.number c.above_vars-number.result c.loop-generator.generator-index c.deref-generator-items.result.now _ refl c.loop-generator.invariant (omega arith) c.deref-generator-items.ensures.value)
    (c.above_vars-number.ensures ∙ ap above_all (c.as_slice.ensures ∙ c.operands.ensures))
    ∙ sym (with_above c.args.with.now)

pub above_parted-returns : goal.above_parted-returns
above_parted-returns t c =
    let p = out-PartedLoop c.args.parted.now in
    started c.loop-part.number c.above_vars-number.result (above_all (parted_uses p.op)) (parts_above p.parts.items)
    (ended parts_above c.loop-part.number c.above_vars-number.result c.loop-part.part-index c.deref-part-items.result.now _ refl c.loop-part.invariant (omega arith) c.deref-part-items.ensures.value)
    (c.above_vars-number.ensures ∙ ap above_all (c.as_slice.ensures ∙ c.operands.ensures))
    ∙ sym (parted_above c.args.parted.now)

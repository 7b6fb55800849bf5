use Rattle.std.proofs.Common.{◌++◌, arith, ap, ◌∙◌}
use Rattle.binding_users.proofs.Collected.{block_collected, with_collected, parted_collected}
use Rattle.binding_users.proofs.collect.+uses.Goals as goal

pub add_block-returns : goal.add_block-returns
add_block-returns t c =
    block_collected c.args.block.now c.args.out.now.items c.loop-binding.out.items c.add_all.new.out.items c.deref.result.now c.loop-binding.binding-index c.deref-binding-items.result.now
    c.loop-binding.invariant (omega arith) c.deref-binding-items.ensures.value c.deref.ensures.value c.in_ok-add_all.ensures

pub add_with-returns : goal.add_with-returns
add_with-returns t c =
    with_collected c.args.with.now c.args.out.now.items c.add_all.new.out.items c.loop-generator.out.items c.loop-generator.generator-index c.deref-generator-items.result.now
    (c.in_ok-add_all.ensures ∙ ap (λ xs. c.args.out.now.items ++ xs) (c.as_slice.ensures ∙ c.operands.ensures)) c.loop-generator.invariant (omega arith) c.deref-generator-items.ensures.value

pub add_parted-returns : goal.add_parted-returns
add_parted-returns t c =
    parted_collected c.args.parted.now c.args.out.now.items c.add_all.new.out.items c.loop-part.out.items c.loop-part.part-index c.deref-part-items.result.now
    (c.in_ok-add_all.ensures ∙ ap (λ xs. c.args.out.now.items ++ xs) (c.as_slice.ensures ∙ c.operands.ensures)) c.loop-part.invariant (omega arith) c.deref-part-items.ensures.value

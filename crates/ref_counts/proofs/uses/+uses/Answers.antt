use Rattle.std.proofs.Common.{◌++◌, drop, ◌+◌, arith, ap, ◌∙◌}
use Rattle.core_ir.specs.View.{right_term}
use Rattle.ref_rules.specs.listed_uses.Latest.{section}
use Rattle.ref_counts.specs.Listing.{each, listed_right}
use Rattle.ref_counts.proofs.Blocks.{item_here}
use Rattle.ref_counts.proofs.Collected.{closed, block_collected, let_collected, with_collected, parted_collected}
use Rattle.ref_counts.proofs.uses.+uses.Goals as goal

pub add_block-returns : goal.add_block-returns
add_block-returns t c =
    block_collected c.args.block.now c.args.out.now.items c.open_section.new.out.items c.loop-binding.out.items c.add_each.new.out.items c.close_section.new.out.items c.deref.result.now
    c.in_ok-head.head c.loop-binding.binding-index c.deref-binding-items.result.now
    c.in_ok-head.ensures.1 c.loop-binding.invariant (omega arith) c.deref-binding-items.ensures.value c.deref.ensures.value c.in_ok-add_each.ensures c.in_ok-head.ensures.0 c.close_section.ensures

pub add_block-loop-binding-preserved : goal.add_block-loop-binding-preserved
add_block-loop-binding-preserved t c =
    let items = c.deref-binding-items.result.now in
    let at = c.loop-binding in
    let b = c.binding-item.result in
    let_collected at.out.items _ c.add_let.new.out.items b (drop at.binding-index items) (drop (at.binding-index + 1) items) items
    (item_here items at.binding-index b c.loop-binding-test.true c.binding-item.is) c.in_ok-add_let.ensures at.invariant

pub add_let-returns : goal.add_let-returns
add_let-returns t c =
    closed c.in_ok-head.head c.args.out.now.items c.open_section.new.out.items c.add_right.new.out.items c.close_section.new.out.items (listed_right (right_term c.args.binding.now.right))
    c.in_ok-head.ensures.1 c.in_ok-add_right.ensures c.in_ok-head.ensures.0 c.close_section.ensures

pub add_with-returns : goal.add_with-returns
add_with-returns t c =
    with_collected c.args.with.now c.args.out.now.items c.add_section.new.out.items c.loop-generator.out.items c.loop-generator.generator-index c.deref-generator-items.result.now
    (c.in_ok-add_section.ensures ∙ ap (λ xs. c.args.out.now.items ++ section (each xs)) (c.as_slice.ensures ∙ c.operands.ensures)) c.loop-generator.invariant (omega arith) c.deref-generator-items.ensures.value

pub add_parted-returns : goal.add_parted-returns
add_parted-returns t c =
    parted_collected c.args.parted.now c.args.out.now.items c.add_section.new.out.items c.loop-part.out.items c.loop-part.part-index c.deref-part-items.result.now
    (c.in_ok-add_section.ensures ∙ ap (λ xs. c.args.out.now.items ++ section (each xs)) (c.as_slice.ensures ∙ c.operands.ensures)) c.loop-part.invariant (omega arith) c.deref-part-items.ensures.value

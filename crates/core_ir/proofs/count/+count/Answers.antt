use Rattle.std.proofs.Common.{refl, arith, ap, sym, ◌∙◌}
use Rattle.core_ir.specs.Counts.{capped}
use Rattle.core_ir.proofs.Counting.{let_count, gen_count, part_count, counted_all, block_counted, with_counted, parted_counted}
use Rattle.core_ir.proofs.count.+count.Goals as goal

pub nodes-returns : goal.nodes-returns
nodes-returns t c =
    counted_all let_count c.loop-binding.count c.loop-binding.binding-index c.deref-binding-items.result.now _ refl c.loop-binding.invariant.counted c.loop-binding.invariant.small (omega arith) c.deref-binding-items.ensures.value
    ∙ ap capped (sym (block_counted c.args.block.now))

pub nodes_parted-returns : goal.nodes_parted-returns
nodes_parted-returns t c =
    counted_all part_count c.loop-part.count c.loop-part.part-index c.deref-part-items.result.now _ refl c.loop-part.invariant.counted c.loop-part.invariant.small (omega arith) c.deref-part-items.ensures.value
    ∙ ap capped (sym (parted_counted c.args.parted.now))

pub nodes_with-returns : goal.nodes_with-returns
nodes_with-returns t c =
    counted_all gen_count c.loop-generator.count c.loop-generator.generator-index c.deref-generator-items.result.now _ refl c.loop-generator.invariant.counted c.loop-generator.invariant.small (omega arith) c.deref-generator-items.ensures.value
    ∙ ap capped (sym (with_counted c.args.with.now))

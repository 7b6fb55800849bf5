use Rattle.std.proofs.Common.{arith, ◌∙◌}
use Rattle.core_ir.specs.View.{let_term, gen_term, part_term}
use Rattle.core_ir.specs.declared.tree.WithLoop.{out-WithLoop}
use Rattle.core_ir.specs.declared.tree.PartedLoop.{out-PartedLoop}
use Rattle.core_ir.proofs.Trees.{block_out, block_roll, with_out, with_roll, parted_out, parted_roll, mapped_all}
use Rattle.core_ir.specs.Terms.{Gives, With, Parted, chain, gens_of, parts_of}
use Rattle.core_ir.proofs.copy.+copy.Goals as goal

pub copy_block-returns : goal.copy_block-returns
copy_block-returns t c =
    let p = mapped_all let_term _ c.deref-binding-items.result.now c.loop-binding.binding-index _ c.loop-binding.invariant (omega arith) c.deref-binding-items.ensures.value in
    let q = c.in_ok-copy_vars.ensures ∙ c.deref.ensures.value in
    rw (block_roll, block_out) (λ i. chain (p i) (Gives (q i)))

pub copy_parted-returns : goal.copy_parted-returns
copy_parted-returns t c =
    let p = mapped_all part_term _ c.deref-part-items.result.now c.loop-part.part-index _ c.loop-part.invariant (omega arith) c.deref-part-items.ensures.value in
    let f = c.in_ok-frame.ensures in
    let g = c.copy-cell.ensures in
    rw (parted_roll, parted_out) (λ i. Parted (f i) (out-PartedLoop c.args.parted.now).base (g i) (out-PartedLoop c.args.parted.now).op (parts_of (p i)))

pub copy_with-returns : goal.copy_with-returns
copy_with-returns t c =
    let p = mapped_all gen_term _ c.deref-generator-items.result.now c.loop-generator.generator-index _ c.loop-generator.invariant (omega arith) c.deref-generator-items.ensures.value in
    rw (with_roll, with_out) (λ i. With (out-WithLoop c.args.with.now).op (gens_of (p i)))

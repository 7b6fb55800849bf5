use Rattle.std.proofs.Common.{◌≡◌, ◌+◌, ◌*◌, drop}
use Rattle.kernel_tree.specs.declared.tree.KernelBlock.{size-KernelBlock}
use Rattle.kernel_tree.specs.declared.tree.KernelPart.{size-KernelPart}
use Rattle.kernel_tree.specs.Terms.{Over}
use Rattle.kernel_tree.specs.View.{parts_then}
use Rattle.own_kernels.specs.Steps.{is_own}
use Rattle.own_kernels.proofs.blocks.+own.Given as goal

abbrev pub decreases-is_own_block : goal.decreases-is_own_block
decreases-is_own_block l = 4 * size-KernelBlock l.block.now + 1

abbrev pub decreases-is_own_part : goal.decreases-is_own_part
decreases-is_own_part l = 4 * size-KernelPart l.part.now

abbrev pub invariant-is_own_block-loop-part : goal.invariant-is_own_block-loop-part
invariant-is_own_block-loop-part l = is_own l.rank l.buffer (parts_then (drop l.part-index l.part-items) Over) ≡ is_own l.rank l.buffer (parts_then l.part-items Over)

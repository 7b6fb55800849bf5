use Rattle.generator_sets.proofs.Joining.{merged_trans}
use Rattle.generator_sets.proofs.merging.merge_parts.Goals as goal

pub loop-left-preserved : goal.loop-left-preserved
loop-left-preserved c = merged_trans _ c.loop-left.merged.items _ c.loop-left.invariant c.in_ok-merged.ensures

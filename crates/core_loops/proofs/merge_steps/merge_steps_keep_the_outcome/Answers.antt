use Rattle.core_loops.proofs.merge_steps.Whole.{merge_outcome}
use Rattle.core_loops.proofs.merge_steps.merge_steps_keep_the_outcome.Goals as goal

pub returns : goal.returns
returns c = merge_outcome

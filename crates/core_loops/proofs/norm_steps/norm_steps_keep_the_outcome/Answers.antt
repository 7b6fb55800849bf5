use Rattle.core_loops.proofs.norm_steps.Whole.{norm_outcome}
use Rattle.core_loops.proofs.norm_steps.norm_steps_keep_the_outcome.Goals as goal

pub returns : goal.returns
returns c = norm_outcome

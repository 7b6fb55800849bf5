use Rattle.core_loops.proofs.fold_steps.Whole.{fold_outcome}
use Rattle.core_loops.proofs.fold_steps.fold_steps_keep_the_outcome.Goals as goal

pub returns : goal.returns
returns c = fold_outcome

use Rattle.core_loops.proofs.norm_steps.Fold.{fold_normal}
use Rattle.core_loops.proofs.norm_steps.folds_are_parted.Goals as goal

pub returns : goal.returns
returns c = fold_normal

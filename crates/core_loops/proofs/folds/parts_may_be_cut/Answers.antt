use Rattle.core_loops.proofs.folds.Replaced.{cut_part}
use Rattle.core_loops.proofs.folds.parts_may_be_cut.Goals as goal

pub returns : goal.returns
returns c = cut_part

use Rattle.core_loops.proofs.folds.Replaced.{folded_at}
use Rattle.core_loops.proofs.folds.selections_are_cells.Goals as goal

pub returns : goal.returns
returns c = folded_at

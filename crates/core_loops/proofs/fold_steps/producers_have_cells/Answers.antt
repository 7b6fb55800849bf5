use Rattle.core_loops.proofs.fold_steps.Producer.{producer_cells}
use Rattle.core_loops.proofs.fold_steps.producers_have_cells.Goals as goal

pub returns : goal.returns
returns c = λ core calls turns called frame parts k g t e typed fit total bases once full ty s words covered. producer_cells core calls turns typed called fit frame parts k g t e total bases once full ty s words covered

use Rattle.core_loops.proofs.folds.Selected.{array_of, parted_made, selected_cell}
use Rattle.core_loops.proofs.folds.cells_are_selected.Goals as goal

pub returns : goal.returns
returns c = λ frame base op parts s e at b m h. (array_of frame base at, (parted_made frame base op parts s e at m h, λ v q. selected_cell frame base at v b q))

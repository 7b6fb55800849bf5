use Rattle.total_cells.proofs.loop_selections.Deciding.{selecting_decided}
use Rattle.total_cells.proofs.loop_selections.laws.selecting.Goals as goal

pub returns : goal.returns
returns c = selecting_decided

use Rattle.core_loops.proofs.norm.Cells.{parted_is_with}
use Rattle.core_loops.proofs.norm.with_loops_are_parted.Goals as goal

pub returns : goal.returns
returns c = parted_is_with

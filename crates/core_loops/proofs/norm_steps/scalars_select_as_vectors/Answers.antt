use Rattle.core_loops.proofs.norm_steps.Scalars.{by_row}
use Rattle.core_loops.proofs.norm_steps.scalars_select_as_vectors.Goals as goal

pub returns : goal.returns
returns c = by_row

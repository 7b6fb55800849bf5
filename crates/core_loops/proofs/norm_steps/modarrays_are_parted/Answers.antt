use Rattle.core_loops.proofs.norm_steps.Modarray.{modarray_normal}
use Rattle.core_loops.proofs.norm_steps.modarrays_are_parted.Goals as goal

pub returns : goal.returns
returns c = modarray_normal

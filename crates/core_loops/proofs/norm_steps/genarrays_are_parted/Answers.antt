use Rattle.core_loops.proofs.norm_steps.Genarray.{genarray_normal}
use Rattle.core_loops.proofs.norm_steps.genarrays_are_parted.Goals as goal

pub returns : goal.returns
returns c = genarray_normal

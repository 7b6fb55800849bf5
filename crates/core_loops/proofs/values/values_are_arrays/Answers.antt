use Rattle.core_loops.proofs.values.Whole.{keeps_arrays}
use Rattle.core_loops.proofs.values.values_are_arrays.Goals as goal

pub returns : goal.returns
returns c = keeps_arrays

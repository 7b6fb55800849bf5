use Rattle.core_facts.proofs.calls.OnArrays.{outcomes_on_arrays}
use Rattle.core_facts.proofs.calls.functions_on_arrays.Goals as goal

pub returns : goal.returns
returns c = outcomes_on_arrays

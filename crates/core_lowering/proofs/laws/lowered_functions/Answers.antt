use Rattle.core_lowering.proofs.WholeBases.{functions_well_formed}
use Rattle.core_lowering.proofs.laws.lowered_functions.Goals as goal

pub returns : goal.returns
returns c = functions_well_formed

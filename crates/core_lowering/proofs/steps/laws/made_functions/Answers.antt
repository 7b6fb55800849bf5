use Rattle.core_lowering.proofs.steps.Whole.{function_lowered}
use Rattle.core_lowering.proofs.steps.laws.made_functions.Goals as goal

pub returns : goal.returns
returns c = function_lowered

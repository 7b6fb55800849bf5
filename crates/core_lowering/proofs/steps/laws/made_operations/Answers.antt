use Rattle.core_lowering.proofs.steps.Accumulated.{made_operation}
use Rattle.core_lowering.proofs.steps.laws.made_operations.Goals as goal

pub returns : goal.returns
returns c = made_operation

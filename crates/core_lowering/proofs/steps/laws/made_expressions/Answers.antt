use Rattle.core_lowering.proofs.steps.Accumulated.{made}
use Rattle.core_lowering.proofs.steps.laws.made_expressions.Goals as goal

pub returns : goal.returns
returns c = made

use Rattle.core_lowering.proofs.steps.Accumulated.{starts_made}
use Rattle.core_lowering.proofs.steps.laws.made_starts.Goals as goal

pub returns : goal.returns
returns c = starts_made

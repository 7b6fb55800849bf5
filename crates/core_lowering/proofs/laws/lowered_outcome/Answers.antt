use Rattle.core_lowering.proofs.Whole.{outcome_same}
use Rattle.core_lowering.proofs.laws.lowered_outcome.Goals as goal

pub returns : goal.returns
returns c = outcome_same

use Rattle.core_lowering.proofs.steps.Accumulated.{made_all}
use Rattle.core_lowering.proofs.steps.laws.made_lists.Goals as goal

pub returns : goal.returns
returns c = made_all

use Rattle.core_lowering.proofs.Chosen.{same_chosen}
use Rattle.core_lowering.proofs.laws.lowered_instances.Goals as goal

pub returns : goal.returns
returns c = same_chosen

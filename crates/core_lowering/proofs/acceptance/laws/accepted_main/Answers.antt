use Rattle.core_lowering.proofs.acceptance.Mains.{accepted_main}
use Rattle.core_lowering.proofs.acceptance.laws.accepted_main.Goals as goal

pub returns : goal.returns
returns c = accepted_main

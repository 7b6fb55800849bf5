use Rattle.core_lowering.proofs.acceptance.Whole.{accepted_definite}
use Rattle.core_lowering.proofs.acceptance.laws.accepted_definite.Goals as goal

pub returns : goal.returns
returns c = accepted_definite

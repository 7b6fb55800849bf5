use Rattle.core_lowering.proofs.acceptance.Standing.{accepted_standing}
use Rattle.core_lowering.proofs.acceptance.laws.accepted_standing.Goals as goal

pub returns : goal.returns
returns c = accepted_standing

use Rattle.core_lowering.proofs.acceptance.WholeTyped.{accepted_typed}
use Rattle.core_lowering.proofs.acceptance.laws.accepted_typed.Goals as goal

pub returns : goal.returns
returns c = accepted_typed

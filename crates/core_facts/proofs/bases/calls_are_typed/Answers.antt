use Rattle.core_facts.proofs.bases.Called.{calls_typed}
use Rattle.core_facts.proofs.bases.calls_are_typed.Goals as goal

pub returns : goal.returns
returns c = calls_typed

use Rattle.core_facts.proofs.calls.Enough.{enough}
use Rattle.core_facts.proofs.calls.enough_is_enough.Goals as goal

pub returns : goal.returns
returns c = enough

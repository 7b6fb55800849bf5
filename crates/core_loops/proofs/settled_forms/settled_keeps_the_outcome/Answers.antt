use Rattle.core_loops.proofs.settled_forms.Cores.{same_outcome}
use Rattle.core_loops.proofs.settled_forms.settled_keeps_the_outcome.Goals as goal

pub returns : goal.returns
returns c = same_outcome

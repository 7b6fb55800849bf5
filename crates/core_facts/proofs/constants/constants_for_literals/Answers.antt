use Rattle.core_facts.proofs.constants.Whole.{settled_outcome}
use Rattle.core_facts.proofs.constants.constants_for_literals.Goals as goal

pub returns : goal.returns
returns c = settled_outcome

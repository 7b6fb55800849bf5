use Rattle.core_forms.proofs.cleaning.Simplified.{simplified_well, simplified_outcome, simplified_settled}
use Rattle.core_forms.proofs.cleaning.checks_become_copies.Goals as goal

pub returns-clause-well : goal.returns-clause-well
returns-clause-well c = simplified_well

pub returns-clause-outcome : goal.returns-clause-outcome
returns-clause-outcome c = simplified_outcome

pub returns-clause-settled : goal.returns-clause-settled
returns-clause-settled c = simplified_settled

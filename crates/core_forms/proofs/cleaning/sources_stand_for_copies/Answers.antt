use Rattle.core_forms.proofs.cleaning.Laws.{forwarded_well, forwarded_outcome}
use Rattle.core_forms.proofs.cleaning.sources_stand_for_copies.Goals as goal

pub returns-clause-well : goal.returns-clause-well
returns-clause-well c = forwarded_well

pub returns-clause-outcome : goal.returns-clause-outcome
returns-clause-outcome c = forwarded_outcome

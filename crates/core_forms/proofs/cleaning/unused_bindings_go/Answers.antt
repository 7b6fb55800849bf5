use Rattle.core_forms.proofs.cleaning.Laws.{swept_well, swept_outcome}
use Rattle.core_forms.proofs.cleaning.unused_bindings_go.Goals as goal

pub returns-clause-well : goal.returns-clause-well
returns-clause-well c = swept_well

pub returns-clause-outcome : goal.returns-clause-outcome
returns-clause-outcome c = swept_outcome

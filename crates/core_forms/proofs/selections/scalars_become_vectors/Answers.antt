use Rattle.core_forms.proofs.selections.Laws.{vectored_well, vectored_outcome}
use Rattle.core_forms.proofs.selections.scalars_become_vectors.Goals as goal

pub returns-clause-well : goal.returns-clause-well
returns-clause-well c = vectored_well

pub returns-clause-outcome : goal.returns-clause-outcome
returns-clause-outcome c = vectored_outcome

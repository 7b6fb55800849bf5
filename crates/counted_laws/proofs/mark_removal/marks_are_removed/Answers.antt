use Rattle.counted_laws.proofs.mark_removal.Counts.{code_counted}
use Rattle.counted_laws.proofs.mark_removal.Removed.{code_core, code_same, code_unmarked}
use Rattle.counted_laws.proofs.mark_removal.marks_are_removed.Goals as goal

pub returns-clause-none : goal.returns-clause-none
returns-clause-none c = code_unmarked

pub returns-clause-same : goal.returns-clause-same
returns-clause-same c = code_core

pub returns-clause-counted : goal.returns-clause-counted
returns-clause-counted c = code_counted

pub returns-clause-stays : goal.returns-clause-stays
returns-clause-stays c = code_same

use Rattle.phase_laws.proofs.PhasedRuns.{same_run}
use Rattle.phase_laws.proofs.runs_in_phases.Goals as goal

pub returns-clause-outcome : goal.returns-clause-outcome
returns-clause-outcome c cut code counted unmarked args caps = (same_run cut code counted unmarked args caps).0

pub returns-clause-cost : goal.returns-clause-cost
returns-clause-cost c cut code counted unmarked args caps = (same_run cut code counted unmarked args caps).1

pub returns-clause-phases : goal.returns-clause-phases
returns-clause-phases c cut code counted unmarked args caps = (same_run cut code counted unmarked args caps).2

pub returns-clause-nothing_left : goal.returns-clause-nothing_left
returns-clause-nothing_left c cut code counted unmarked args caps = (same_run cut code counted unmarked args caps).3

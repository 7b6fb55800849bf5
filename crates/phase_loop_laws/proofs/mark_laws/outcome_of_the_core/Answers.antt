use Rattle.phase_loop_laws.proofs.mark_laws.Outcomes.{ends_as_core}
use Rattle.phase_loop_laws.proofs.mark_laws.outcome_of_the_core.Goals as goal

pub returns-clause-same : goal.returns-clause-same
returns-clause-same c code counted well args full caps = (ends_as_core code counted well args full caps).0

pub returns-clause-nothing_left : goal.returns-clause-nothing_left
returns-clause-nothing_left c code counted well args full caps = (ends_as_core code counted well args full caps).1

use Rattle.counted_laws.proofs.Outcomes.{ends_as_core}
use Rattle.counted_laws.proofs.outcome_of_the_core.Goals as goal

pub returns-clause-same : goal.returns-clause-same
returns-clause-same c code counted unmarked args caps = (ends_as_core code counted unmarked args caps).0

pub returns-clause-nothing_left : goal.returns-clause-nothing_left
returns-clause-nothing_left c code counted unmarked args caps = (ends_as_core code counted unmarked args caps).1

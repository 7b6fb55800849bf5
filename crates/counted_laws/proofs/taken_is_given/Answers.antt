use Rattle.counted_code.specs.Outcome.{whole_run}
use Rattle.counted_laws.proofs.Outcomes.{ends_as_core, even_cost}
use Rattle.counted_laws.proofs.taken_is_given.Goals as goal

pub returns-clause-heap : goal.returns-clause-heap
returns-clause-heap c code counted unmarked args caps = (ends_as_core code counted unmarked args caps).2

pub returns-clause-cost : goal.returns-clause-cost
returns-clause-cost c code counted unmarked args caps = even_cost (whole_run code args caps) (ends_as_core code counted unmarked args caps).2

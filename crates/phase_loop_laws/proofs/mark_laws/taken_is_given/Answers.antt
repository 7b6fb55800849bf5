use Rattle.counted_code.specs.Outcome.{whole_run}
use Rattle.counted_laws.proofs.Outcomes.{even_cost}
use Rattle.phase_loop_laws.proofs.mark_laws.Outcomes.{ends_as_core}
use Rattle.phase_loop_laws.proofs.mark_laws.taken_is_given.Goals as goal

pub returns-clause-heap : goal.returns-clause-heap
returns-clause-heap c code counted well args full caps = (ends_as_core code counted well args full caps).2

pub returns-clause-cost : goal.returns-clause-cost
returns-clause-cost c code counted well args full caps = even_cost (whole_run code args caps) (ends_as_core code counted well args full caps).2

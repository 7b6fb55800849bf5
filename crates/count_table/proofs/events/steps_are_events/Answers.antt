use Rattle.count_table.proofs.Reading.{opens_at_opening, steps_are_events}
use Rattle.count_table.proofs.events.steps_are_events.Goals as goal

pub returns-clause-opening : goal.returns-clause-opening
returns-clause-opening g c = opens_at_opening

pub returns-clause-steps : goal.returns-clause-steps
returns-clause-steps g c = steps_are_events

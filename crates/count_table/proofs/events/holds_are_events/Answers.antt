use Rattle.count_table.proofs.HoldsReading.{holds_at_opening, holds_are_events}
use Rattle.count_table.proofs.events.holds_are_events.Goals as goal

pub returns-clause-opening : goal.returns-clause-opening
returns-clause-opening g c = holds_at_opening

pub returns-clause-steps : goal.returns-clause-steps
returns-clause-steps g c = holds_are_events

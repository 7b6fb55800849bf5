use Rattle.phase_loop_laws.proofs.Places.{costs_in_all}
use Rattle.phase_loop_laws.proofs.costs_of_places.Goals as goal

pub returns : goal.returns
returns c takes indices = costs_in_all takes indices

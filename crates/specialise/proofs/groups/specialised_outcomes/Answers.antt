use Rattle.specialise.proofs.groups.Outcomes.{outcomes}
use Rattle.specialise.proofs.groups.specialised_outcomes.Goals as goal

pub returns : goal.returns
returns c = outcomes

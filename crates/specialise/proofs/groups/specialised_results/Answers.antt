use Rattle.specialise.proofs.groups.Results.{same_results}
use Rattle.specialise.proofs.groups.specialised_results.Goals as goal

pub returns : goal.returns
returns c = same_results

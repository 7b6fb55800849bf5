use Rattle.specialise.proofs.groups.Formed.{formed}
use Rattle.specialise.proofs.groups.specialised_forms.Goals as goal

pub returns : goal.returns
returns c = formed

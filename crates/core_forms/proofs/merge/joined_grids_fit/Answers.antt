use Rattle.core_forms.proofs.merge.Grids.{joined_fit}
use Rattle.core_forms.proofs.merge.joined_grids_fit.Goals as goal

pub returns : goal.returns
returns c = joined_fit

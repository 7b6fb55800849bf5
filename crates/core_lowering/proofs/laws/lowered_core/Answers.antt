use Rattle.core_lowering.proofs.WellMade.{well_formed}
use Rattle.core_lowering.proofs.laws.lowered_core.Goals as goal

pub returns : goal.returns
returns c = well_formed

use Rattle.core_loops.proofs.settled_forms.Cores.{well_formed}
use Rattle.core_loops.proofs.settled_forms.settled_is_well_formed.Goals as goal

pub returns : goal.returns
returns c = well_formed

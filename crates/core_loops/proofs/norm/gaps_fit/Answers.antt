use Rattle.core_loops.proofs.norm.Labels.{none_fits}
use Rattle.core_loops.proofs.norm.gaps_fit.Goals as goal

pub returns : goal.returns
returns c = none_fits

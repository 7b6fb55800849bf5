use Rattle.core_loops.proofs.norm.Labels.{parts_fit}
use Rattle.core_loops.proofs.norm.partitions_fit.Goals as goal

pub returns : goal.returns
returns c = parts_fit

use Rattle.core_forms.proofs.merge.Laws.{fewer}
use Rattle.core_forms.proofs.merge.parted_loops_fall.Goals as goal

pub returns : goal.returns
returns c = fewer

use Rattle.core_forms.proofs.fold.Laws.{fewer}
use Rattle.core_forms.proofs.fold.parted_loops_fall.Goals as goal

pub returns : goal.returns
returns c = fewer

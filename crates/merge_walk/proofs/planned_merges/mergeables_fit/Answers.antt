use Rattle.merge_walk.proofs.planned_merges.Whole.{fits}
use Rattle.merge_walk.proofs.planned_merges.mergeables_fit.Goals as goal

pub returns : goal.returns
returns c = fits

use Rattle.merge_walk.proofs.planned_merges.Whole.{fresh}
use Rattle.merge_walk.proofs.planned_merges.plans_are_fresh.Goals as goal

pub returns : goal.returns
returns c = fresh

use Rattle.merge_walk.proofs.planned_merges.Placing.{walks_placed}
use Rattle.merge_walk.proofs.planned_merges.walks_are_placed.Goals as goal

pub returns : goal.returns
returns c = walks_placed

use Rattle.std.proofs.Common.{length}
use Rattle.merge_plans.proofs.grids.+same_axes.Given as goal

abbrev pub decreases-same_axes : goal.decreases-same_axes
decreases-same_axes l = length l.a.now

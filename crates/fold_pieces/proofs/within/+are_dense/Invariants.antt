use Rattle.std.proofs.Common.{length}
use Rattle.fold_pieces.proofs.within.+are_dense.Given as goal

abbrev pub decreases-are_dense : goal.decreases-are_dense
decreases-are_dense l = length l.axes.now

use Rattle.std.proofs.Common.{length}
use Rattle.fold_pieces.proofs.holding.+have_moved.Given as goal

abbrev pub decreases-have_moved : goal.decreases-have_moved
decreases-have_moved l = length l.axes.now

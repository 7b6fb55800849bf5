use Rattle.std.proofs.Common.{length}
use Rattle.fold_pieces.proofs.moving.+push_moved.Given as goal

abbrev pub decreases-push_moved : goal.decreases-push_moved
decreases-push_moved l = length l.axes.now

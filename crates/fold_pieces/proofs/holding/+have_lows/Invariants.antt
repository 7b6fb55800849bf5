use Rattle.std.proofs.Common.{length}
use Rattle.fold_pieces.proofs.holding.+have_lows.Given as goal

abbrev pub decreases-have_lows : goal.decreases-have_lows
decreases-have_lows l = length l.axes.now

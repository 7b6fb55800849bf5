use Rattle.generator_sets.specs.Pieces.{lows, moved}
use Rattle.fold_pieces.proofs.Searching.{Beyond}
use Rattle.fold_pieces.proofs.holding.holder.Given as goal

abbrev pub invariant-loop-j : goal.invariant-loop-j
invariant-loop-j l = Beyond l.grids (moved (lows l.piece) l.by) l.j

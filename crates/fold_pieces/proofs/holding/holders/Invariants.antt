use Rattle.std.proofs.Common.{drop}
use Rattle.generator_sets.specs.Pieces.{lows}
use Rattle.fold_pieces.specs.Pieces.{vectors}
use Rattle.fold_pieces.proofs.Searching.{SoFar}
use Rattle.fold_pieces.proofs.holding.holders.Given as goal

abbrev pub invariant-loop-offset : goal.invariant-loop-offset
invariant-loop-offset l = SoFar l.grids (lows l.piece) (vectors l.offsets) (vectors (drop l.offset-index l.offsets)) l.found.items

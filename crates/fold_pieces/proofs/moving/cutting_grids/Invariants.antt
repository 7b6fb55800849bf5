use Rattle.std.proofs.Common.{◌≡◌, ◌++◌, ◌∷◌, drop}
use Rattle.core_loops.specs.Pairs.{all_moved_back}
use Rattle.fold_pieces.specs.Pieces.{vectors}
use Rattle.fold_pieces.proofs.moving.cutting_grids.Given as goal

abbrev pub invariant-loop-offset : goal.invariant-loop-offset
invariant-loop-offset l = l.all.items ++ all_moved_back (vectors (drop l.offset-index l.offsets)) l.grids ≡ l.grid ∷ all_moved_back (vectors l.offsets) l.grids

use Rattle.std.proofs.Common.{◌≡◌, ◌++◌, drop}
use Rattle.fold_pieces.specs.Pieces.{vectors}
use Rattle.total_cells.specs.loop_selections.Told.{told}
use Rattle.foldable_pairs.proofs.Selecting.{somes}
use Rattle.foldable_pairs.proofs.offsets.all_known.Given as goal

abbrev pub invariant-loop-offset : goal.invariant-loop-offset
invariant-loop-offset l = somes (vectors l.known.items) ++ told (drop l.offset-index l.found) ≡ told l.found

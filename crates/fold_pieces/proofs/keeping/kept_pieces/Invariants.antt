use Rattle.std.proofs.Common.{◌≡◌, ◌++◌, drop}
use Rattle.std.specs.Prelude.{filter}
use Rattle.std.specs.List.{All}
use Rattle.generator_sets.specs.Pieces.{lows}
use Rattle.fold_pieces.specs.declared.keeping.FoldPiece.{FoldPiece}
use Rattle.fold_pieces.specs.Kept.{grids_in}
use Rattle.fold_pieces.specs.Pieces.{vectors, is_kept, HaveFirst}
use Rattle.fold_pieces.proofs.keeping.kept_pieces.Given as goal

abbrev pub invariant-loop-piece : goal.invariant-loop-piece
invariant-loop-piece l = record {
  grids : grids_in l.found.items ++ filter (is_kept l.grid l.grids (vectors l.offsets)) (drop l.piece-index l.pieces)
      ≡ filter (is_kept l.grid l.grids (vectors l.offsets)) l.pieces;
  holders : All (λ (p : FoldPiece). HaveFirst l.grids (lows p.grid) (vectors l.offsets) p.holders.items) l.found.items;
}

-- The grids of pieces.
use Rattle.std.specs.Prelude.{List, map}
use Rattle.sac_base.specs.declared.grid.Grid1.{Grid1}
use Rattle.fold_pieces.specs.declared.keeping.FoldPiece.{FoldPiece}

abbrev pub grids_in : List FoldPiece → List (List Grid1)
grids_in pieces = map (λ (p : FoldPiece). p.grid) pieces

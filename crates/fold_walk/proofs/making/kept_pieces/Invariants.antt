use Rattle.std.proofs.Common.{◌≡◌, ◌++◌}
use Rattle.fold_walk.specs.fold_laws.Made.{numbered_grids}
use Rattle.fold_walk.proofs.Gathering.{kept}
use Rattle.fold_walk.proofs.making.kept_pieces.Given as goal

abbrev pub invariant-loop-piece : goal.invariant-loop-piece
invariant-loop-piece l = numbered_grids l.kept.items ++ kept l.piece-iterator.rest.items ≡ kept l.initial.piece-iterator.rest.items

use Rattle.std.proofs.Common.{◌≡◌, ◌++◌, drop}
use Rattle.std.specs.Prelude.{map}
use Rattle.core_loops.specs.Pairs.{moved_back}
use Rattle.fold_pieces.proofs.moving.push_grids.Given as goal

abbrev pub invariant-loop-grid : goal.invariant-loop-grid
invariant-loop-grid l = l.all.items ++ map (moved_back l.by) (drop l.grid-index l.grids) ≡ l.initial.all.items ++ map (moved_back l.by) l.grids

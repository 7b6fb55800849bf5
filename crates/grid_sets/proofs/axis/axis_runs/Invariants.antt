use Rattle.std.proofs.Common.{◌≡◌, length}
use Rattle.std.specs.Prelude.{◌≤ℤ◌, ◌-ℤ◌, unsigned_abs}
use Rattle.std.specs.List.{All}
use Rattle.sac_base.specs.Grids.{within, Splits}
use Rattle.grid_sets.specs.Segments.{IsUniform}
use Rattle.grid_sets.proofs.Axes.{Stands, Leaves}
use Rattle.grid_sets.proofs.axis.axis_runs.Given as goal

abbrev pub invariant-loop-rest : goal.invariant-loop-rest
invariant-loop-rest l = record {
  end : l.rest.to ≡ l.axis.to;
  low : l.axis.from ≤ℤ l.rest.from;
  stands : Stands l.axis.from l.rest.from l.axis.to;
  split : Splits l.pieces.items (within l.axis.from l.rest.from);
  even : All (IsUniform l.grids) l.pieces.items;
  leaves : Leaves l.grids l.axis.to l.limit l.axis.from l.rest.from (length l.pieces.items);
}

abbrev pub decreases-loop-rest : goal.decreases-loop-rest
decreases-loop-rest l = unsigned_abs (l.rest.to -ℤ l.rest.from)

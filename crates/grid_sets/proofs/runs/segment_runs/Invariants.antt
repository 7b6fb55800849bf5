use Rattle.std.proofs.Common.{◌≡◌, length}
use Rattle.std.specs.Prelude.{◌≤ℤ◌, ◌<ℤ◌, ◌-ℤ◌, unsigned_abs, true, min}
use Rattle.std.specs.Int.{int_gap}
use Rattle.std.specs.List.{All}
use Rattle.grid_sets.specs.Segments.{IsUniform, begins_run, run_count}
use Rattle.grid_sets.proofs.Cutting.{SplitsBelow}
use Rattle.grid_sets.proofs.runs.segment_runs.Given as goal

abbrev pub invariant-loop-rest : goal.invariant-loop-rest
invariant-loop-rest l = record {
  low : l.segment.from ≤ℤ l.rest.from;
  high : l.rest.from ≤ℤ l.rest.to;
  inside : l.rest.to ≤ℤ l.segment.to;
  near : unsigned_abs (l.rest.to -ℤ l.segment.from) ≡ min (unsigned_abs (l.segment.to -ℤ l.segment.from)) l.period;
  split : SplitsBelow l.pieces.items l.segment.from l.segment.to l.period (unsigned_abs (l.rest.from -ℤ l.segment.from));
  even : All (IsUniform l.grids) l.pieces.items;
  counted : length l.pieces.items ≡ run_count l.grids l.segment.from (unsigned_abs (l.rest.from -ℤ l.segment.from));
  begins : l.rest.from <ℤ l.rest.to → begins_run l.grids l.segment.from (unsigned_abs (l.rest.from -ℤ l.segment.from)) ≡ true;
}

abbrev pub decreases-loop-rest : goal.decreases-loop-rest
decreases-loop-rest l = int_gap l.rest.from l.rest.to

use Rattle.std.proofs.Common.{ℕ, ◌*◌, ◌<◌, ◌≤◌}
use Rattle.std.specs.List.{All}
use Rattle.grid_sets.specs.Segments.{IsMultipleFor}
use Rattle.grid_sets.proofs.period.segment_period.Given as goal

abbrev pub invariant-loop-count : goal.invariant-loop-count
invariant-loop-count l = record {
  some : 0 < l.count;
  least : (k : ℕ) → 0 < k → All (IsMultipleFor k l.segment.from l.segment.to) l.grids → l.step * l.count ≤ k;
}

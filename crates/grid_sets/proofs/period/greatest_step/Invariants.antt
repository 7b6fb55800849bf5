use Rattle.std.proofs.Common.{◌≡◌, ℕ, ◌<◌, ◌%◌}
use Rattle.std.specs.List.{All}
use Rattle.grid_sets.specs.Segments.{IsMultipleFor}
use Rattle.grid_sets.proofs.period.greatest_step.Given as goal

abbrev pub invariant-loop-grid : goal.invariant-loop-grid
invariant-loop-grid l = record {
  positive : 0 < l.greatest;
  divides : (k : ℕ) → All (IsMultipleFor k l.segment.from l.segment.to) l.grids → k % l.greatest ≡ 0;
}

use Rattle.std.proofs.Common.{◌≡◌, ◌⊎◌, take}
use Rattle.std.specs.Prelude.{◌≤ℤ◌, ◌<ℤ◌}
use Rattle.std.specs.List.{All}
use Rattle.grid_sets.specs.Segments.{NoCut, IsBound}
use Rattle.grid_sets.proofs.segment.first_segment.Given as goal

abbrev pub invariant-loop-grid : goal.invariant-loop-grid
invariant-loop-grid l = record {
  from : l.segment.from ≡ l.rest.from;
  some : l.rest.from <ℤ l.segment.to;
  low : l.segment.to ≤ℤ l.rest.to;
  clear : All (NoCut l.rest.from l.segment.to) (take l.grid-index l.grids);
  end : (l.segment.to ≡ l.rest.to) ⊎ IsBound l.grids l.segment.to;
}

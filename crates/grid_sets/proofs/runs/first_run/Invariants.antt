use Rattle.std.proofs.Common.{◌≡◌, take}
use Rattle.std.specs.Prelude.{ℤ, ◌≤ℤ◌, ◌<ℤ◌, true, false}
use Rattle.sac_base.specs.Grids.{within}
use Rattle.grid_sets.specs.Segments.{alike}
use Rattle.grid_sets.proofs.runs.first_run.Given as goal

abbrev pub invariant-loop-grid : goal.invariant-loop-grid
invariant-loop-grid l = record {
  from : l.run.from ≡ l.segment.from;
  some : l.segment.from <ℤ l.run.to;
  low : l.run.to ≤ℤ l.segment.to;
  same : (x : ℤ) → within l.segment.from l.run.to x ≡ true → alike (take l.grid-index l.grids) l.segment.from x ≡ true;
  change : l.run.to <ℤ l.segment.to → alike (take l.grid-index l.grids) l.segment.from l.run.to ≡ false;
}

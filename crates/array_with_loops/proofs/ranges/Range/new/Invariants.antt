use Rattle.std.proofs.Common.{◌≡◌, drop, ◌++◌, All, length}
use Rattle.sac_base.specs.WithLoops.{axes}
use Rattle.array_with_loops.specs.Ranges.{IsAxis}
use Rattle.array_with_loops.proofs.ranges.Range.new.Given as goal

abbrev pub invariant-loop-k : goal.invariant-loop-k
invariant-loop-k l = record {
  whole : l.axes.items ++ axes (drop l.k l.lower) (drop l.k l.upper) (drop l.k l.step) (drop l.k l.width) ≡ axes l.lower l.upper l.step l.width;
  each : All IsAxis l.axes.items;
  count : length l.axes.items ≡ l.k;
}

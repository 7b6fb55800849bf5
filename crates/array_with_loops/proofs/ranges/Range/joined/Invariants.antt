use Rattle.std.proofs.Common.{◌≡◌, drop, ◌++◌, All}
use Rattle.sac_base.specs.WithLoops.{joined_range}
use Rattle.array_with_loops.specs.Ranges.{IsAxis}
use Rattle.array_with_loops.proofs.ranges.Range.joined.Given as goal

abbrev pub invariant-loop-k : goal.invariant-loop-k
invariant-loop-k l = record {
  whole : l.axes.items ++ joined_range (drop l.k l.self) (drop l.k l.other) ≡ joined_range l.self l.other;
  each : All IsAxis l.axes.items;
}

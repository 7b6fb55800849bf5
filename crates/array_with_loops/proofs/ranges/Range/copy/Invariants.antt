use Rattle.std.proofs.Common.{◌≡◌, take, All}
use Rattle.array_with_loops.specs.Ranges.{IsAxis}
use Rattle.array_with_loops.proofs.ranges.Range.copy.Given as goal

abbrev pub invariant-loop-axis : goal.invariant-loop-axis
invariant-loop-axis l = record {
  items : l.axes.items ≡ take l.axis-index l.self;
  each : All IsAxis l.axes.items;
}

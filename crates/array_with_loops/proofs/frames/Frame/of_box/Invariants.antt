use Rattle.std.proofs.Common.{◌≡◌, take, map, pos}
use Rattle.sac_base.specs.WithLoops.{Axis, span_of}
use Rattle.array_with_loops.proofs.frames.Frame.of_box.Given as goal

abbrev pub invariant-loop-axis : goal.invariant-loop-axis
invariant-loop-axis l = record {
  low : l.low.items ≡ map (λ (a : Axis). a.lower) (take l.axis-index l.axis-items);
  extents : l.extents.items ≡ map (λ (a : Axis). pos (span_of a).extent) (take l.axis-index l.axis-items);
}

use Rattle.std.proofs.Common.{◌≡◌, replicate, pos}
use Rattle.array_with_loops.proofs.frames.Frame.of_shape.Given as goal

abbrev pub invariant-loop-k : goal.invariant-loop-k
invariant-loop-k l = l.low.items ≡ replicate l._k (pos 0)

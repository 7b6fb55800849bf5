use Rattle.std.proofs.Common.{◌≡◌, replicate}
use Rattle.array_with_loops.proofs.bounds.filled.Given as goal

abbrev pub invariant-loop-k : goal.invariant-loop-k
invariant-loop-k l = l.zs.items ≡ replicate l._k l.z

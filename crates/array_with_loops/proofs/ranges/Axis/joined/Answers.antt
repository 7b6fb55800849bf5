use Rattle.std.proofs.Common.{arith}
use Rattle.std.proofs.lemmas.Int.{ints, clamps}
use Rattle.array_with_loops.proofs.ranges.Axis.joined.Goals as goal

pub invariant_of-result : goal.invariant_of-result
invariant_of-result c = record {
  lower = record { least = omega (arith, ints, clamps); most = omega (arith, ints, clamps) };
  upper = record { least = omega (arith, ints, clamps); most = omega (arith, ints, clamps) };
  step = c.self.invariant.step;
  width = c.self.invariant.width;
}

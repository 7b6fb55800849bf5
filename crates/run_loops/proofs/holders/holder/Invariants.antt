use Rattle.std.proofs.Common.{◌≡◌, drop}
use Rattle.run_loops.specs.Loops.{held}
use Rattle.run_loops.proofs.holders.holder.Given as goal

abbrev pub invariant-loop-k : goal.invariant-loop-k
invariant-loop-k l = held (drop l.k l.gens) (drop l.k l.ranges) l.index ≡ held l.gens l.ranges l.index

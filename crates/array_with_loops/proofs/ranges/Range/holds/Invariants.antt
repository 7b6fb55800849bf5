use Rattle.std.proofs.Common.{◌≡◌, drop}
use Rattle.sac_base.specs.WithLoops.{holds}
use Rattle.array_with_loops.proofs.ranges.Range.holds.Given as goal

abbrev pub invariant-loop-k : goal.invariant-loop-k
invariant-loop-k l = holds (drop l.k l.self) (drop l.k l.index) ≡ holds l.self l.index

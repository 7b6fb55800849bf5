use Rattle.std.proofs.Common.{◌≡◌, ℕ, drop}
use Rattle.sac_base.specs.WithLoops.{holds}
use Rattle.array_with_loops.specs.Ranges.{moved_last}
use Rattle.array_with_loops.proofs.ranges.Range.run_from.Given as goal

abbrev pub invariant-loop-k : goal.invariant-loop-k
invariant-loop-k l = (j : ℕ) → holds (drop l.k l.self) (moved_last j (drop l.k l.index)) ≡ holds l.self (moved_last j l.index)

use Rattle.std.proofs.Common.{◌≡◌, ℕ, ◌<◌, ◌≤◌, ◌%◌}
use Rattle.grid_sets.proofs.period.least_multiple.Given as goal

abbrev pub invariant-loop-p : goal.invariant-loop-p
invariant-loop-p l = (k : ℕ) → 0 < k → k % l.a ≡ 0 → k % l.b ≡ 0 → l.p ≤ k

use Rattle.std.proofs.Common.{◌≡◌, length, map, drop, unsigned_abs}
use Rattle.sac_base.specs.Arrays.{same_shape}
use Rattle.run_store.proofs.target.same_sizes.Given as goal

-- what is left to compare decides
abbrev pub invariant-loop-k : goal.invariant-loop-k
invariant-loop-k l =
    (length l.a ≡ length l.b) × (same_shape (map unsigned_abs l.a) (map unsigned_abs l.b) ≡ same_shape (map unsigned_abs (drop l.k l.a)) (map unsigned_abs (drop l.k l.b)))

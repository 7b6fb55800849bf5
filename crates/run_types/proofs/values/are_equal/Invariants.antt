use Rattle.std.proofs.Common.{◌≡◌, drop, map}
use Rattle.std.specs.Prelude.{unsigned_abs}
use Rattle.sac_base.specs.Arrays.{same_shape}
use Rattle.run_types.proofs.values.are_equal.Given as goal

abbrev pub invariant-loop-k : goal.invariant-loop-k
invariant-loop-k l = same_shape (map unsigned_abs (drop l.k l.extents)) (map unsigned_abs (drop l.k l.others)) ≡ same_shape (map unsigned_abs l.extents) (map unsigned_abs l.others)

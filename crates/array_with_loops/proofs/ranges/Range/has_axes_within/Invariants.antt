use Rattle.std.proofs.Common.{◌≡◌, drop, map}
use Rattle.std.specs.Prelude.{unsigned_abs}
use Rattle.array_with_loops.specs.Ranges.{axes_within}
use Rattle.array_with_loops.proofs.ranges.Range.has_axes_within.Given as goal

abbrev pub invariant-loop-k : goal.invariant-loop-k
invariant-loop-k l = axes_within (map unsigned_abs (drop l.k l.extents)) (drop l.k l.self) ≡ axes_within (map unsigned_abs l.extents) l.self

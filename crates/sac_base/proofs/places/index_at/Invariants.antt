use Rattle.std.proofs.Common.{◌≡◌, ◌≤◌, ◌<◌, ◌++◌, drop, take, length}
use Rattle.sac_base.specs.Arrays.{size}
use Rattle.sac_base.specs.Places.{vector_at}
use Rattle.sac_base.proofs.places.index_at.Given as goal

abbrev pub invariant-loop-k : goal.invariant-loop-k
invariant-loop-k l =
    let ns = l.shape in
    (l.k ≤ length l.extents) × (l.rest < size (take l.k ns))
    × (vector_at (take l.k ns) l.rest ++ drop l.k l.into ≡ vector_at ns l.fn.place)

abbrev pub decreases-loop-k : goal.decreases-loop-k
decreases-loop-k l = l.k

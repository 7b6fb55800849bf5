use Rattle.std.proofs.Common.{◌≡◌, ◌≤◌, ◌*◌, ◌-◌, ◌+◌, ◌^◌, drop, length, Some}
use Rattle.sac_base.specs.Arrays.{size, MOST}
use Rattle.sac_base.specs.Parts.{part_at}
use Rattle.sac_base.proofs.places.offset.Given as goal

abbrev pub invariant-loop-k : goal.invariant-loop-k
invariant-loop-k l =
    let ns = l.shape in
    (l.k ≤ length l.index) × (l.stride ≤ MOST + 1) × (l.start ≤ (length l.index - l.k) * 2 ^ 56)
    × (size (drop l.k ns) ≤ MOST → (l.stride ≡ size (drop l.k ns)) × (part_at (drop l.k ns) (drop l.k l.index) ≡ Some (record { start = l.start; shape = drop (length l.index) ns })))

abbrev pub decreases-loop-k : goal.decreases-loop-k
decreases-loop-k l = l.k

use Rattle.std.proofs.Common.{◌≡◌, ◌≤◌, [], take, length, map, unsigned_abs, Some}
use Rattle.sac_base.specs.Arrays.{MOST}
use Rattle.sac_base.specs.Parts.{part_at}
use Rattle.run_store.proofs.select.cell_place.Given as goal

abbrev pub invariant-loop-k : goal.invariant-loop-k
invariant-loop-k l =
    (part_at (map unsigned_abs (take l.k l.extents)) (take l.k l.index) ≡ Some (record { start = l.place; shape = [] })) × (length l.extents ≡ length l.index) × (l.place ≤ MOST)

use Rattle.std.proofs.Common.{◌≡◌, ◌+◌, ◌≤◌, ◌++◌, vec_len, vec_capacity}
use Rattle.std.specs.Vec.Iter.{into_iter_items, into_iter_len}
use Rattle.count_table.specs.Opening.{present}
use Rattle.phase_draws.proofs.arrays.empty_slots.Given as goal

abbrev pub invariant-loop-slot : goal.invariant-loop-slot
invariant-loop-slot l = goal.iterator-loop-slot.can_next l.slot-iterator
    × goal.iterator-loop-slot.is_finite l.slot-iterator
    × (l.parts.items ++ present (into_iter_items l.slot-iterator) ≡ present (into_iter_items l.initial.slot-iterator))
    × (vec_len l.parts + into_iter_len l.slot-iterator ≤ vec_capacity l.parts)

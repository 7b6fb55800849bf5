use Rattle.std.proofs.Common.{◌≡◌, ◌+◌, ◌≤◌, ◌++◌, map, Some, vec_len, vec_capacity}
use Rattle.std.specs.Vec.Iter.{drain_items, drain_len, DrainKeeps}
use Rattle.phase_draws.proofs.arrays.fill_slots.Given as goal

abbrev pub invariant-loop-part : goal.invariant-loop-part
invariant-loop-part l = goal.iterator-loop-part.can_next l.part-iterator
    × goal.iterator-loop-part.is_finite l.part-iterator
    × (l.slots.items ++ map Some (drain_items l.part-iterator) ≡ map Some (drain_items l.initial.part-iterator))
    × (vec_len l.slots + drain_len l.part-iterator ≤ vec_capacity l.slots)
    × DrainKeeps l.initial.part-iterator l.part-iterator

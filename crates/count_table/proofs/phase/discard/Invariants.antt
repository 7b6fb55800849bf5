use Rattle.std.proofs.Common.{◌≡◌, ℕ, ◌<◌, ◌≤◌, true, false, get_or}
use Rattle.std.specs.Slots.{slots_filled, slots_len}
use Rattle.count_table.proofs.phase.discard.Given as goal

abbrev pub invariant-loop-slot : goal.invariant-loop-slot
invariant-loop-slot g l =
    (slots_len l.closed.slots ≡ l.slot-end)
    × ((k : ℕ) → l.slot ≤ k → k < slots_len l.closed.slots → get_or (slots_filled l.closed.slots) k false ≡ true)
    × ((k : ℕ) → k < l.slot → get_or (slots_filled l.closed.slots) k false ≡ false)

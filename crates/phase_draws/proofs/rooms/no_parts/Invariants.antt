use Rattle.std.proofs.Common.{◌≡◌, None, replicate, vec_capacity}
use Rattle.phase_draws.proofs.rooms.no_parts.Given as goal

abbrev pub invariant-loop : goal.invariant-loop
invariant-loop l = (l.slots.items ≡ replicate l.counter None) × (vec_capacity l.slots ≡ l.chunks)

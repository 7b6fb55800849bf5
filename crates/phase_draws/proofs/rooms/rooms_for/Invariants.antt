use Rattle.std.proofs.Common.{◌≡◌, ◌+◌, vec_len, vec_capacity}
use Rattle.phase_draws.specs.Crews.{AreRooms}
use Rattle.phase_draws.proofs.rooms.rooms_for.Given as goal

abbrev pub invariant-loop : goal.invariant-loop
invariant-loop l = AreRooms l.chunks l.others.items × (vec_len l.others + 1 ≡ l.counter) × (vec_capacity l.others ≡ l.workers)

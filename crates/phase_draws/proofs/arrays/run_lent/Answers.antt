use Rattle.std.proofs.Common.{rules}
use Rattle.phase_draws.proofs.Buffers.{kept_same}
use Rattle.phase_draws.proofs.arrays.run_lent.Goals as goal
use Rattle.phase_draws.proofs.arrays.run_lent.Goals.{in-Ok, in-Err}

pub returns-clause-places : goal.returns-clause-places
returns-clause-places g c =
    elim c.match-array_rooms.branch [
      | in-Ok w ↦ search rules
      | in-Err w ↦ search (rules, kept_same)
    ]

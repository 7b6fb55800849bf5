use Rattle.std.proofs.Common.{◌+◌, ◌*◌, vec_len}
use Rattle.phase_draws.proofs.crew.+crew.Given as goal

abbrev pub decreases-run_team : goal.decreases-run_team
decreases-run_team g l = 6 * vec_len l.roster.now.rooms + 5

abbrev pub decreases-run_first : goal.decreases-run_first
decreases-run_first g l = 6 * vec_len l.roster.now.rooms + 4

abbrev pub decreases-side_by_side : goal.decreases-side_by_side
decreases-side_by_side g l = 6 * vec_len l.roster.now.rooms + 3

abbrev pub decreases-side_by_side-there : goal.decreases-side_by_side-there
decreases-side_by_side-there g l = 6 * vec_len l.roster.now.rooms + 2

abbrev pub decreases-run_others : goal.decreases-run_others
decreases-run_others g l = 6 * vec_len l.roster.now.rooms + 1

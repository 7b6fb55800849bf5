use Rattle.phase_schedules.proofs.Runs.{all_stand, runs_along}
use Rattle.phase_schedules.proofs.interleavings_are_runs.Goals as goal

pub returns-clause-stands : goal.returns-clause-stands
returns-clause-stands g c kind u parts xs m i = all_stand kind u parts xs m i

pub returns-clause-along : goal.returns-clause-along
returns-clause-along g c kind u parts xs m i = runs_along kind u parts xs m i

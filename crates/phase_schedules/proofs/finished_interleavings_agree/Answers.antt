use Rattle.phase_schedules.proofs.Leaving.{leavers_agree}
use Rattle.phase_schedules.proofs.Runs.{all_end}
use Rattle.phase_schedules.proofs.finished_interleavings_agree.Goals as goal

pub returns-clause-finished : goal.returns-clause-finished
returns-clause-finished g c kind u parts xs m i left done = all_end kind u parts xs m i left done

pub returns-clause-leavers : goal.returns-clause-leavers
returns-clause-leavers g c u parts xs m i leave left = leavers_agree u parts xs m i leave left

use Rattle.phase_schedules.proofs.Calls.{calls_are_steps}
use Rattle.phase_schedules.proofs.Runs.{all_stand}
use Rattle.phase_schedules.proofs.each_call_is_a_step.Goals as goal

pub returns : goal.returns
returns g c kind u parts xs m i = calls_are_steps kind u m (all_stand kind u parts xs m i).ruled

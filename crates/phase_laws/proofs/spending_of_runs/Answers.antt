use Rattle.phase_laws.proofs.Runs.{run_spends}
use Rattle.phase_laws.proofs.spending_of_runs.Goals as goal

pub returns : goal.returns
returns c code counted unmarked args caps = run_spends code counted unmarked args caps

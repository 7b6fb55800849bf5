use Rattle.wl_core.proofs.Kept.{reached_facts}
use Rattle.wl_core.proofs.Verdicts.{settled}
use Rattle.wl_core.specs.Machine.{Finished}
use Rattle.phase_team.proofs.Runs.{acts, chunks_done}
use Rattle.phase_team.proofs.law.each_schedule_is_a_run.Goals as goal

pub returns : goal.returns
returns c = record {
  acts = λ u s w few. acts u s w few;
  ends = λ u s setup reached some all nothing.
      let facts = reached_facts u s setup reached in
      let finished : Finished u s = (nothing, chunks_done u s facts all some) in
      (finished, settled u s setup facts finished);
}

use Rattle.phase_loop_laws.proofs.mark_laws.Outcomes.{marking_keeps}
use Rattle.phase_loop_laws.proofs.mark_laws.marking_keeps_the_outcome.Goals as goal

pub returns : goal.returns
returns c = marking_keeps

use Rattle.phase_loop_laws.proofs.mark_laws.Alike.{own_elements}
use Rattle.phase_loop_laws.proofs.mark_laws.own_elements_are_enough.Goals as goal

pub returns : goal.returns
returns c = own_elements

use Rattle.core_loops.proofs.settled_forms.Cores.{no_other_literal}
use Rattle.core_loops.proofs.settled_forms.settled_has_no_other_literal.Goals as goal

pub returns : goal.returns
returns c = no_other_literal

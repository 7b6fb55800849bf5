use Rattle.core_forms.proofs.inlined_bodies.Whole.{passes_go_on}
use Rattle.core_forms.proofs.inlined_bodies.passes_go_on.Goals as goal

pub returns : goal.returns
returns c = passes_go_on

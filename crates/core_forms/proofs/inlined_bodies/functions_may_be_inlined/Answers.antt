use Rattle.core_forms.proofs.inlined_bodies.Whole.{functions_may_be_inlined}
use Rattle.core_forms.proofs.inlined_bodies.functions_may_be_inlined.Goals as goal

pub returns : goal.returns
returns c = functions_may_be_inlined

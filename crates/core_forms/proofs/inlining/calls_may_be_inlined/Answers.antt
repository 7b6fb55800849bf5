use Rattle.core_forms.proofs.inlining.Calls.{inlined_call}
use Rattle.core_forms.proofs.inlining.calls_may_be_inlined.Goals as goal

pub returns : goal.returns
returns c = inlined_call

use Rattle.core_forms.proofs.inlining.Backward.{steps_outcome}
use Rattle.core_forms.proofs.inlining.inline_steps_keep_the_outcome.Goals as goal

pub returns : goal.returns
returns c = steps_outcome

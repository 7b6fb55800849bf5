use Rattle.core_forms.proofs.merge.Inner.{inner_parts}
use Rattle.core_forms.proofs.merge.inner_parts_are_scoped.Goals as goal

pub returns : goal.returns
returns c = inner_parts

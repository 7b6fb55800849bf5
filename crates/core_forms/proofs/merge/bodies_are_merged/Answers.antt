use Rattle.core_forms.proofs.merge.Built.{bodies_merged}
use Rattle.core_forms.proofs.merge.bodies_are_merged.Goals as goal

pub returns : goal.returns
returns c = bodies_merged

use Rattle.core_forms.proofs.merge.Around.{total_alike}
use Rattle.core_forms.proofs.merge.around_is_total.Goals as goal

pub returns : goal.returns
returns c = total_alike

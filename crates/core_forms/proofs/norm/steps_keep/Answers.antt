use Rattle.core_forms.proofs.norm.Whole.{go_on, numbers_below, walks_keep}
use Rattle.core_forms.proofs.norm.steps_keep.Goals as goal

pub returns-clause-keep : goal.returns-clause-keep
returns-clause-keep c = walks_keep

pub returns-clause-below : goal.returns-clause-below
returns-clause-below c = numbers_below

pub returns-clause-on : goal.returns-clause-on
returns-clause-on c = go_on

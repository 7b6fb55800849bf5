use Rattle.core_forms.proofs.merge.Whole.{go_on, merges_keep, numbers_below}
use Rattle.core_forms.proofs.merge.merges_keep.Goals as goal

pub returns-clause-keep : goal.returns-clause-keep
returns-clause-keep c = merges_keep

pub returns-clause-below : goal.returns-clause-below
returns-clause-below c = numbers_below

pub returns-clause-on : goal.returns-clause-on
returns-clause-on c = go_on

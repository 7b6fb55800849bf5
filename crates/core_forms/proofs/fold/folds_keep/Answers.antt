use Rattle.core_forms.proofs.fold.Stepped.{as_step}
use Rattle.core_forms.proofs.fold.Whole.{folds_keep, go_on, numbers_below}
use Rattle.core_forms.proofs.fold.folds_keep.Goals as goal

pub returns-clause-keep : goal.returns-clause-keep
returns-clause-keep c = folds_keep

pub returns-clause-below : goal.returns-clause-below
returns-clause-below c = numbers_below

pub returns-clause-on : goal.returns-clause-on
returns-clause-on c = go_on

pub returns-clause-named : goal.returns-clause-named
returns-clause-named c = as_step

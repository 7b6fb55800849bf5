use Rattle.core_forms.proofs.norm.Grids.{some_fit, splits_cover, splits_fit}
use Rattle.core_forms.proofs.norm.splits_fit.Goals as goal

pub returns-clause-all : goal.returns-clause-all
returns-clause-all c = λ frame grids h. (splits_fit frame grids h, splits_cover frame grids h)

pub returns-clause-some : goal.returns-clause-some
returns-clause-some c = some_fit

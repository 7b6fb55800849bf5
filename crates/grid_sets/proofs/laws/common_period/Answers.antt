use Rattle.grid_sets.proofs.Existence.{some_common, one_common}
use Rattle.grid_sets.proofs.laws.common_period.Goals as goal

pub returns-clause-some : goal.returns-clause-some
returns-clause-some c = some_common

pub returns-clause-one : goal.returns-clause-one
returns-clause-one c = one_common

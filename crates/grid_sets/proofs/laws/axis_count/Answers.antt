use Rattle.grid_sets.proofs.Existence.{axis_counted, one_count}
use Rattle.grid_sets.proofs.laws.axis_count.Goals as goal

pub returns-clause-some : goal.returns-clause-some
returns-clause-some c = axis_counted

pub returns-clause-one : goal.returns-clause-one
returns-clause-one c = one_count

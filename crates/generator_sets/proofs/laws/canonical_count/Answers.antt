use Rattle.generator_sets.proofs.CountFacts.{some_canonical, one_canonical}
use Rattle.generator_sets.proofs.laws.canonical_count.Goals as goal

pub returns-clause-some : goal.returns-clause-some
returns-clause-some c generators frame = some_canonical generators 0 frame

pub returns-clause-one : goal.returns-clause-one
returns-clause-one c generators frame = one_canonical generators 0 frame

use Rattle.fold_walk.proofs.fold_laws.Place.{fresh_of}
use Rattle.fold_walk.proofs.fold_laws.Walks.{function_fresh}
use Rattle.fold_walk.proofs.fold_laws.plans_are_fresh.Goals as goal

pub returns-clause-pairs : goal.returns-clause-pairs
returns-clause-pairs c = fresh_of

pub returns-clause-functions : goal.returns-clause-functions
returns-clause-functions c = function_fresh

use Rattle.core_lowering.proofs.WholeScope.{function_scoped, function_once}
use Rattle.core_lowering.proofs.laws.lowered_scopes.Goals as goal

pub returns-clause-scoped : goal.returns-clause-scoped
returns-clause-scoped c = function_scoped

pub returns-clause-once : goal.returns-clause-once
returns-clause-once c = function_once

use Rattle.core_ir.proofs.Outcomes.{outcomes_by, outcomes_each}
use Rattle.core_ir.proofs.laws.function_by_function.Goals as goal

pub returns-clause-bodies : goal.returns-clause-bodies
returns-clause-bodies c = outcomes_by

pub returns-clause-functions : goal.returns-clause-functions
returns-clause-functions c = outcomes_each

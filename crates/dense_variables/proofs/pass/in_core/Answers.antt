use Rattle.core_ir.specs.View.{core_term}
use Rattle.dense_variables.proofs.pass.in_core.Goals as goal

pub returns : goal.returns
returns c = λ i. record (core_term c.args.core) { functions = c.in_ok-functions.ensures i }

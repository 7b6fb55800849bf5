use Rattle.run_values.proofs.Short.{vector_as}
use Rattle.std.proofs.Common.{rules}
use Rattle.run_values.proofs.value.small_value.Goals as goal

pub returns-then-rank-eq1-clause-some : goal.returns-then-rank-eq1-clause-some
returns-then-rank-eq1-clause-some c =
    vector_as c.args.base c.args.shape.now c.args.cells.now c.vector_value.result (search rules) c.requires c.vector_value.ensures.some

use Rattle.std.proofs.Common.{map}
use Rattle.core_ir.specs.View.{let_term}
use Rattle.fact_table.specs.Table.{facts_of}
use Rattle.fold_walk.proofs.Traces.{kept_step}
use Rattle.fold_walk.proofs.walk.GivenRewriting.right.Goals as goal

pub returns-clause-step : goal.returns-clause-step
returns-clause-step c = kept_step (facts_of c.args._table.now) c.args._folding.now c.args._place.targets.now c.args._place.site c.args.known (map let_term c.args._done.now.items)

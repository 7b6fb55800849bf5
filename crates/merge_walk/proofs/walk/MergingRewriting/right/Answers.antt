use Rattle.std.proofs.Common.{map}
use Rattle.core_ir.specs.View.{let_term, right_term}
use Rattle.fact_table.specs.Table.{fact_of, facts_of}
use Rattle.plain_facts.specs.Called.{shapes_of}
use Rattle.merge_walk.proofs.Walks.{step_end}
use Rattle.merge_walk.proofs.walk.MergingRewriting.right.Goals as goal

pub returns-clause-step : goal.returns-clause-step
returns-clause-step c =
    step_end (shapes_of c.args.self.now.called.now) (facts_of c.args.table.now) c.args.progress.now c.merge_here.new.progress c.args.place.targets.now c.args.place.site (right_term c.args.known.right) (map fact_of c.args.known.values.items)
    (map let_term c.args._done.now.items) c.merge_here.result c.merge_here.ensures.merged c.merge_here.ensures.known

use Rattle.core_ir.specs.View.{right_term}
use Rattle.fact_table.specs.Table.{facts_of}
use Rattle.plain_facts.specs.Called.{shapes_of}
use Rattle.merge_walk.proofs.Loops.{many_kept, one_end}
use Rattle.merge_walk.proofs.here.merge_here.Goals as goal

pub returns-then-targets-ne1-clause-merged : goal.returns-then-targets-ne1-clause-merged
returns-then-targets-ne1-clause-merged c = many_kept (shapes_of c.args.called.now) (facts_of c.args.table.now) c.args.progress.now c.args.targets.now (right_term c.args.known.right) c.if-targets-ne1.true

pub returns-clause-merged : goal.returns-clause-merged
returns-clause-merged c =
    one_end (shapes_of c.args.called.now) (facts_of c.args.table.now) c.args.progress.now c.merge_one.new.progress c.args.targets.now (right_term c.args.known.right) c.merge_one.result c.if-targets-ne1.false c.merge_one.ensures.merged

use Rattle.core_ir.specs.View.{block_term}
use Rattle.std.proofs.Common.{map}
use Rattle.fact_table.specs.Table.{fact_of, facts_of}
use Rattle.plain_facts.specs.Called.{shapes_of}
use Rattle.fold_walk.proofs.Traces.{walked_end}
use Rattle.fold_walk.proofs.walk.fold_block.Goals as goal

pub returns-clause-walked : goal.returns-clause-walked
returns-clause-walked c =
    let given = c.args.given.now in
    walked_end (shapes_of given.called.now) given.function (facts_of c.args.table.now) c.args.folding.now c.walk_block.new.progress (block_term c.args.block) (block_term c.in_ok-walked.walked.block)
    (map fact_of c.in_ok-walked.walked.results.items) c.in_ok-walked.ensures.traced

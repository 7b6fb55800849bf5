use Rattle.core_ir.specs.View.{block_term}
use Rattle.fact_table.specs.Table.{facts_of}
use Rattle.plain_facts.specs.Called.{shapes_of}
use Rattle.variable_bases.specs.Table.{base_in}
use Rattle.norm_walk.proofs.Steps.{known_end, walked_end}
use Rattle.norm_walk.proofs.walk.norm_block.Goals as goal

pub returns-clause-walked : goal.returns-clause-walked
returns-clause-walked c =
    let given = c.args.given.now in
    walked_end (shapes_of given.called.now) (base_in given.bases.now) given.first (facts_of c.args.table.now) c.args.progress.now c.walk_block.new.progress (block_term c.args.block) c.walk_block.result c.walk_block.ensures.traced

pub returns-clause-known : goal.returns-clause-known
returns-clause-known c =
    let given = c.args.given.now in
    known_end (shapes_of given.called.now) (base_in given.bases.now) given.first (facts_of c.args.table.now) c.args.progress.now c.walk_block.new.progress (block_term c.args.block) c.walk_block.result c.walk_block.ensures.traced

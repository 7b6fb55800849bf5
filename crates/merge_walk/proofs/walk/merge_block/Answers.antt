use Rattle.core_ir.specs.View.{block_term}
use Rattle.fact_table.specs.Table.{facts_of}
use Rattle.plain_facts.specs.Called.{shapes_of}
use Rattle.merge_walk.proofs.Walks.{known_end, walked_end}
use Rattle.merge_walk.proofs.walk.merge_block.Goals as goal

pub returns-clause-walked : goal.returns-clause-walked
returns-clause-walked c =
    walked_end (shapes_of c.args.called.now) (facts_of c.args.table.now) c.args.progress.now c.walk_block.new.progress (block_term c.args.block) c.walk_block.result c.walk_block.ensures.traced

pub returns-clause-known : goal.returns-clause-known
returns-clause-known c =
    known_end (shapes_of c.args.called.now) (facts_of c.args.table.now) c.args.progress.now c.walk_block.new.progress (block_term c.args.block) c.walk_block.result c.walk_block.ensures.traced

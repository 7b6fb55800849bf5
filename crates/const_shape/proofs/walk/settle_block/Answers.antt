use Rattle.core_ir.specs.View.{block_term}
use Rattle.fact_table.specs.Table.{facts_of}
use Rattle.plain_facts.specs.Called.{shapes_of}
use Rattle.const_shape.proofs.Walked.{known_end, settled_end}
use Rattle.const_shape.proofs.walk.settle_block.Goals as goal

pub returns-clause-settled : goal.returns-clause-settled
returns-clause-settled c =
    settled_end (shapes_of c.args.called.now) (facts_of c.args.table.now) _ _ (block_term c.args.block) c.walk_block.result c.walk_block.ensures.traced

pub returns-clause-known : goal.returns-clause-known
returns-clause-known c =
    known_end (shapes_of c.args.called.now) (facts_of c.args.table.now) _ _ (block_term c.args.block) c.walk_block.result c.walk_block.ensures.traced

use Rattle.core_ir.specs.View.{block_term}
use Rattle.fact_table.specs.Table.{facts_of}
use Rattle.plain_facts.specs.Called.{shapes_of}
use Rattle.vector_selections.proofs.Walked.{next_end, vectored_end}
use Rattle.vector_selections.proofs.walk.in_block.Goals as goal

pub returns-clause-vectored : goal.returns-clause-vectored
returns-clause-vectored c =
    vectored_end (shapes_of c.args.called.now) (facts_of c.args.table.now) c.args.fresh.now c.walk_block.new.progress (block_term c.args.block) c.walk_block.result c.walk_block.ensures.traced

pub returns-clause-fresh : goal.returns-clause-fresh
returns-clause-fresh c =
    next_end (shapes_of c.args.called.now) (facts_of c.args.table.now) c.args.fresh.now c.walk_block.new.progress (block_term c.args.block) c.walk_block.result c.walk_block.ensures.traced

use Rattle.core_ir.specs.View.{right_term}
use Rattle.fact_table.specs.Table.{facts_of}
use Rattle.const_shape.proofs.Checks.{unchecked_is, unchecked_known}
use Rattle.const_shape.proofs.plain.settle_plain.Goals as goal

pub returns-clause-settled : goal.returns-clause-settled
returns-clause-settled c =
    unchecked_is (right_term c.args.right) (right_term c.in_ok-known.known.right) (right_term c.uncheck.result) (facts_of c.args.table.now) c.in_ok-known.ensures.settled c.uncheck.ensures

pub returns-clause-known : goal.returns-clause-known
returns-clause-known c =
    unchecked_known (right_term c.in_ok-known.known.right) (right_term c.uncheck.result) (facts_of c.args.table.now) _ c.uncheck.ensures c.in_ok-known.ensures.known

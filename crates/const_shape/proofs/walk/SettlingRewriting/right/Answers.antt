use Rattle.std.proofs.Common.{map, sym, ◌∙◌}
use Rattle.core_ir.specs.View.{let_term, right_term}
use Rattle.fact_table.specs.Table.{fact_of, facts_of}
use Rattle.plain_facts.specs.Called.{shapes_of}
use Rattle.const_shape.proofs.Walked.{other_step, plain_step}
use Rattle.const_shape.proofs.walk.SettlingRewriting.right.Goals as goal

pub returns-clause-step : goal.returns-clause-step
returns-clause-step c =
    plain_step (shapes_of c.args.self.now.called.now) (facts_of c.args.table.now) c.args._place.targets.now c.args._place.site (right_term c.args.known.right) (map fact_of c.args.known.values.items)
    (map let_term c.args._done.now.items) c.settle_plain.result (sym c.is_plain.ensures ∙ c.if-not-is_plain.false) c.settle_plain.ensures.settled c.settle_plain.ensures.known

pub returns-then-not-is_plain-clause-step : goal.returns-then-not-is_plain-clause-step
returns-then-not-is_plain-clause-step c =
    other_step (shapes_of c.args.self.now.called.now) (facts_of c.args.table.now) c.args._place.targets.now c.args._place.site c.args.known (map let_term c.args._done.now.items) (sym c.is_plain.ensures ∙ c.if-not-is_plain.true)

use Rattle.std.proofs.Common.{map}
use Rattle.core_ir.specs.View.{let_term, right_term}
use Rattle.fact_table.specs.Table.{fact_of, facts_of}
use Rattle.vector_selections.proofs.Walked.{kept_step, taken_step}
use Rattle.vector_selections.proofs.walk.VectoringRewriting.right.Goals as goal

pub returns-in_default-clause-step : goal.returns-in_default-clause-step
returns-in_default-clause-step c =
    kept_step (facts_of c.args.table.now) c.args.fresh.now c.args.place.targets.now c.args.place.site (right_term c.args.known.right) (map fact_of c.args.known.values.items) (map let_term c.args.done.now.items)
    c.scalar_selection.result c.scalar_selection.ensures c.in_default.is

pub returns-clause-step : goal.returns-clause-step
returns-clause-step c =
    taken_step (facts_of c.args.table.now) c.args.fresh.now c.bind_vector.new.fresh c.args.place.targets.now c.args.place.site (right_term c.args.known.right) (map fact_of c.args.known.values.items)
    (map let_term c.args.done.now.items) (map let_term c.bind_vector.new.done.items) c.scalar_selection.result c.in-Some.selection c.in_ok-vector.vector c.scalar_selection.ensures c.in-Some.is
    c.in_ok-vector.ensures.taken c.in_ok-vector.ensures.bound c.in_ok-vector.ensures.fresh

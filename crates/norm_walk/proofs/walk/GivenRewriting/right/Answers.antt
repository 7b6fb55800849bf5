use Rattle.std.proofs.Common.{map}
use Rattle.core_ir.specs.View.{let_term}
use Rattle.fact_table.specs.Table.{fact_of, facts_of}
use Rattle.plain_facts.specs.Called.{shapes_of}
use Rattle.variable_bases.specs.Table.{base_in}
use Rattle.norm_walk.proofs.Steps.{other_step, with_step}
use Rattle.norm_walk.proofs.walk.GivenRewriting.right.Goals as goal

pub returns-in-With-clause-step : goal.returns-in-With-clause-step
returns-in-With-clause-step c =
    let given = c.args.self.now in
    with_step (shapes_of given.called.now) (base_in given.bases.now) given.first (facts_of c.args.table.now) c.args.progress.now c.replace_with.new.progress c.args.place.targets.now c.args.place.site c.args.known.right c.in-With.with
    (map fact_of c.args.known.values.items) (map let_term c.args._done.now.items) c.replace_with.result c.in-With.is c.replace_with.ensures.replaced c.replace_with.ensures.known

pub returns-in_default-clause-step : goal.returns-in_default-clause-step
returns-in_default-clause-step c =
    let given = c.args.self.now in
    other_step (shapes_of given.called.now) (base_in given.bases.now) given.first (facts_of c.args.table.now) c.args.progress.now c.args.place.targets.now c.args.place.site c.args.known (map let_term c.args._done.now.items) c.in_default.not-With

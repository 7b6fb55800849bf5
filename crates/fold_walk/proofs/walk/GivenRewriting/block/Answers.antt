use Rattle.std.proofs.Common.{◌-◌, ◌∙◌, ap, refl, map, length}
use Rattle.std.specs.Prelude.{drop}
use Rattle.fact_table.specs.Table.{fact_of, facts_of}
use Rattle.plain_facts.specs.Called.{shapes_of}
use Rattle.fold_walk.proofs.Traces.{level_finish}
use Rattle.fold_walk.proofs.walk.GivenRewriting.block.Goals as goal

pub returns-clause-finish : goal.returns-clause-finish
returns-clause-finish c =
    let given = c.args.self.now in
    level_finish (shapes_of given.called.now) given.function (facts_of c.args.table.now) (facts_of c.fold_level.new.table) c.args.folding.now c.fold_level.new.folding c.args.known.block _ c.in_ok-lets.lets.items c.deref.result.now
    (map fact_of c.args.known.results.items) _ c.in_ok-lets.ensures.folded c.deref.ensures.value refl refl c.in_ok-lets.ensures.learned
    (c.in_ok-values.ensures ∙ ap (map (facts_of c.fold_level.new.table)) c.deref-2.ensures.value)

pub returns-clause-table : goal.returns-clause-table
returns-clause-table c =
    let now = c.fold_level.new.table in
    c.undo.ensures ∙ ap (λ n. drop (length now - n) now) c.mark-before.ensures ∙ c.in_ok-lets.ensures.earlier

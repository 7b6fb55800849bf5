use Rattle.std.proofs.Common.{rules, ◌≡◌, ◌++◌, ◌∷◌, [], Some, length, ap, sym, ◌∙◌, pos}
use Rattle.std.specs.Prelude.{replicate}
use Rattle.std.specs.Option.{is_some}
use Rattle.core_ir.specs.View.{block_term}
use Rattle.core_facts.specs.Facts.{note, shape_fact}
use Rattle.core_loops.specs.Indices.{note_index, Plus, Other}
use Rattle.core_loops.specs.Pairs.{offsets}
use Rattle.fact_table.specs.Table.{fact_of, facts_of}
use Rattle.index_table.specs.Table.{indices_of}
use Rattle.total_cells.specs.loop_selections.Told.{seen, told}
use Rattle.plain_facts.specs.Called.{shapes_of}
use Rattle.foldable_pairs.proofs.Selecting.{is_known}
use Rattle.foldable_pairs.proofs.offsets.body_selections.Goals as goal

pub returns-in-Some-clause-some : goal.returns-in-Some-clause-some
returns-in-Some-clause-some c =
    let called = shapes_of c.args.called.now in
    let index = c.args.index in
    let n = length c.args.grid.now in
    let fact : fact_of c.of_shape.result ≡ shape_fact (Some (n ∷ [])) = search rules in
    let facts : facts_of c.learn.new.self ≡ note (facts_of c.args.facts.now) index (shape_fact (Some (n ∷ []))) =
    ap facts_of c.in_ok-learn.ensures.learned ∙ (λ i. note (facts_of c.args.facts.now) index (fact i)) in
    let beside : indices_of c.learn-2.new.self ≡ note_index (λ x. Other) index (Plus (replicate n (pos 0))) = search rules in (
      is_known _ _ _ (ap seen (sym c.in-Some.is) ∙ c.in_ok-known.ensures.known),
      c.in_ok-known.ensures.found (ap is_some c.in-Some.is)
          ∙ (λ i. told (c.new-found.ensures.items i) ++ offsets called c.args.producer (length (c.axes-axes.ensures.axes i)) (block_term c.args.body.now) (facts i) (beside i)),
    )

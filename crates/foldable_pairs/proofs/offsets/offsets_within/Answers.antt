use Rattle.std.proofs.Common.{rules, ◌≡◌, List, ℤ, subst, true}
use Rattle.core_ir.specs.View.{part_term}
use Rattle.fact_table.specs.Table.{facts_of}
use Rattle.total_cells.specs.loop_selections.Selecting.{is_selecting}
use Rattle.total_cells.specs.loop_selections.Told.{told}
use Rattle.plain_facts.specs.Called.{shapes_of}
use Rattle.foldable_pairs.specs.Selected.{part_offsets}
use Rattle.foldable_pairs.proofs.Selecting.{somes, flat_unknown}
use Rattle.foldable_pairs.proofs.offsets.offsets_within.Goals as goal

pub returns-in-Some-clause-none : goal.returns-in-Some-clause-none
returns-in-Some-clause-none c =
    let called = shapes_of c.args.called.now in
    let k = facts_of c.args.facts.now in
    let part = part_term c.args.part.now in
    let all = told c.in-Some.found.items in
    let some : (is_selecting c.args.producer part.body ≡ true) × (all ≡ part_offsets called k c.args.producer part) = search rules in
    let none : (at : List (List ℤ)) → somes at ≡ told c.deref.result.now → ⊥ = search rules in
    flat_unknown called k c.args.producer part all some.1 (subst (λ xs. (at : List (List ℤ)) → somes at ≡ told xs → ⊥) c.deref.ensures.value none)

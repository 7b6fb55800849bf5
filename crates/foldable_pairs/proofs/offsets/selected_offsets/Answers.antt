use Rattle.std.proofs.Common.{rules, ◌∙◌, List, ℤ, sym, subst}
use Rattle.std.specs.Prelude.{Vec}
use Rattle.std.specs.declared.alloc.Global.{Global}
use Rattle.core_ir.specs.View.{part_term}
use Rattle.fact_table.specs.Table.{facts_of}
use Rattle.fold_pieces.specs.Pieces.{vectors}
use Rattle.plain_facts.specs.Called.{shapes_of}
use Rattle.foldable_pairs.specs.Selected.{OnlySelects, FlatSelects}
use Rattle.foldable_pairs.proofs.Selecting.{avoiding, only_flat, flat_only}
use Rattle.foldable_pairs.proofs.offsets.selected_offsets.Goals as goal

pub returns-then-avoids_part-clause-some : goal.returns-then-avoids_part-clause-some
returns-then-avoids_part-clause-some c =
    let called = shapes_of c.args.called.now in
    let k = facts_of c.args.facts.now in
    let part = part_term c.args.part.now in
    subst (λ (xs : List (Vec ℤ Global)). OnlySelects called k c.args.producer part (vectors xs)) (sym c.new.ensures.items)
    (avoiding called k c.args.producer part (sym c.avoids_part.ensures ∙ c.if-avoids_part.true))

pub returns-in-Some-clause-some : goal.returns-in-Some-clause-some
returns-in-Some-clause-some c =
    let called = shapes_of c.args.called.now in
    let k = facts_of c.args.facts.now in
    let part = part_term c.args.part.now in
    let at = vectors c.in-Some.offsets.items in
    let flat : FlatSelects called k c.args.producer part at = search rules in
    only_flat called k c.args.producer part at flat

pub returns-in-None-clause-none : goal.returns-in-None-clause-none
returns-in-None-clause-none c = λ at only.
    let called = shapes_of c.args.called.now in
    let k = facts_of c.args.facts.now in
    let part = part_term c.args.part.now in
    let none : (at : List (List ℤ)) → FlatSelects called k c.args.producer part at → ⊥ = search rules in
    none at (flat_only called k c.args.producer part (sym c.avoids_part.ensures ∙ c.if-avoids_part.false) at only)

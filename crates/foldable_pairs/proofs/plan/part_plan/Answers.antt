use Rattle.std.proofs.Common.{rules, ◌≡◌, ◌∙◌, List, [], ◌∷◌, ℤ, length, suc, refl, ap, sym, subst}
use Rattle.std.specs.Prelude.{Vec}
use Rattle.std.specs.declared.alloc.Global.{Global}
use Rattle.core_ir.specs.View.{part_term}
use Rattle.core_loops.specs.Pairs.{grids_of}
use Rattle.fact_table.specs.Table.{facts_of}
use Rattle.plain_facts.specs.Called.{shapes_of}
use Rattle.fold_pieces.specs.Cuts.{IsDense, IsCut, HasCut}
use Rattle.fold_pieces.specs.Pieces.{vectors, AreNear}
use Rattle.foldable_pairs.specs.Pairs.{producer_of}
use Rattle.foldable_pairs.specs.Selected.{OnlySelects}
use Rattle.foldable_pairs.proofs.Planning.{no_offsets, no_room, no_cut, planned}
use Rattle.foldable_pairs.proofs.plan.part_plan.Goals as goal

many : (offsets : List (Vec ℤ Global)) → length (vectors offsets) ≡ length offsets
many [] = refl
many (x ∷ offsets) = ap suc (many offsets)

pub returns-in_default-clause-none : goal.returns-in_default-clause-none
returns-in_default-clause-none c = λ near s base made n m few f.
    let called = shapes_of c.args.called.now in
    let k = facts_of c.args.facts.now in
    let part = part_term c.args.part.now in
    let none : (at : List (List ℤ)) → OnlySelects called k c.args.producer.now.var part at → ⊥ = search rules in
    no_offsets called k (producer_of c.args.producer.now s base made) part none n m f

pub returns-then-not-part_has_room-clause-none : goal.returns-then-not-part_has_room-clause-none
returns-then-not-part_has_room-clause-none c = λ near s base made n m few f.
    let called = shapes_of c.args.called.now in
    let k = facts_of c.args.facts.now in
    let part = part_term c.args.part.now in
    let offsets = c.in-Some.offsets.items in
    let only : OnlySelects called k c.args.producer.now.var part (vectors offsets) = search rules in
    let size : length offsets ≡ c.len-selected.result = search rules in
    no_room called k (producer_of c.args.producer.now s base made) part (vectors offsets) only c.len-selected.result c.part_has_room.result (many offsets ∙ size)
    c.part_has_room.ensures c.if-not-part_has_room.true n m f

pub returns-in_default-2-clause-none : goal.returns-in_default-2-clause-none
returns-in_default-2-clause-none c = λ near s base made n m few f.
    let called = shapes_of c.args.called.now in
    let k = facts_of c.args.facts.now in
    let part = part_term c.args.part.now in
    let p = producer_of c.args.producer.now s base made in
    let offsets = c.in-Some.offsets.items in
    let only : OnlySelects called k c.args.producer.now.var part (vectors offsets) = search rules in
    let none : IsDense p.frame → AreNear c.args.grids.now → HasCut p.frame part.head.grid c.args.grids.now (vectors c.deref.result.now) → ⊥ = search rules in
    let here = none near.0 (subst AreNear (sym c.requires) near.1) in
    no_cut called k p part (vectors offsets) only
    (λ cut. here (subst (λ gs. HasCut p.frame part.head.grid gs (vectors c.deref.result.now)) (sym c.requires)
    (subst (λ xs. HasCut p.frame part.head.grid (grids_of p.parts) (vectors xs)) (sym c.deref.ensures.value) cut))) n m few f

pub returns-clause-plan : goal.returns-clause-plan
returns-clause-plan c = λ s base made.
    let called = shapes_of c.args.called.now in
    let k = facts_of c.args.facts.now in
    let part = part_term c.args.part.now in
    let p = producer_of c.args.producer.now s base made in
    let offsets = c.in-Some.offsets.items in
    let cut = c.in-Some-2.cut in
    let only : OnlySelects called k c.args.producer.now.var part (vectors offsets) = search rules in
    let size : length offsets ≡ c.len-selected.result = search rules in
    let is : IsCut p.frame part.head.grid c.args.grids.now (vectors c.deref.result.now) cut.pieces.items cut.count = search rules in
    planned called k p part (vectors offsets) only _ c.len-selected.result cut.count (many offsets ∙ size) (c.part_has_room.ensures.0 c.if-not-part_has_room.false)
    (subst (λ gs. IsCut p.frame part.head.grid gs (vectors offsets) cut.pieces.items cut.count) c.requires
    (subst (λ xs. IsCut p.frame part.head.grid c.args.grids.now (vectors xs) cut.pieces.items cut.count) c.deref.ensures.value is))

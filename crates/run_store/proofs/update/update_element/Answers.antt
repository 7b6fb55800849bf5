use Rattle.std.proofs.Common.{rules, ◌≡◌, length, map, refl, subst, sym, ◌∙◌, unsigned_abs, w32, FitsSigned}
use Rattle.std.specs.Prelude.{IfSome}
use Rattle.std.proofs.lemmas.Int.{to_z-of_z}
use Rattle.counted_code.specs.Values.{cells_of}
use Rattle.run_store.specs.Stands.{Stands}
use Rattle.run_store.specs.Updates.{renewed}
use Rattle.run_values.specs.Numbers.{numbers}
use Rattle.run_store.proofs.Updates.{updated}
use Rattle.run_store.proofs.update.update_element.Goals as goal

pub returns-in-Some-2-clause-told : goal.returns-in-Some-2-clause-told
returns-in-Some-2-clause-told c m stands =
    let array = c.in-Buffer in
    let place = c.in-Some.place in
    let n = c.in-Word.n in
    let heap = c.renew_buffer.new.heap in
    let found = c.in-Some.ensures m (record { base = array.base; shape = map unsigned_abs (numbers array.extents); cells = cells_of m array.id.born }) refl in
    let number = subst (λ o. IfSome o (λ new. new.born ≡ length m.buffers)) c.in-Some-2.is (c.in_ok-new.ensures.number m stands) in
    let fits : FitsSigned w32 n = search rules in
    let renews = subst (λ z. IfSome c.in_ok-new.field-0 (λ _. Stands heap (renewed array.id.born place z m))) (to_z-of_z w32 n fits) (c.in_ok-new.ensures.stands m stands) in
    let now = subst (λ o. IfSome o (λ _. Stands heap (renewed array.id.born place n m))) c.in-Some-2.is renews in
    updated array.base c.in-Word.part_base array.id c.in-Some-2.new array.extents c.args.index.now n place heap m c.args.array.now c.args.part.now array.is c.in-Word.is
    (sym c.same_base.ensures ∙ c.if-not-same_base.false) (sym c.is_held_inside.ensures ∙ c.if-is_held_inside.false) found number now

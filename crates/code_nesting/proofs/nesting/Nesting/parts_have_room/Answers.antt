use Rattle.std.proofs.Common.{ℕ, ◌≤◌, List, subst}
use Rattle.std.proofs.lemmas.Bool.{leb-true}
use Rattle.counted_code.specs.View.{code_program}
use Rattle.code_nesting.specs.Needs.{PartsNeed}
use Rattle.code_nesting.specs.Promised.{Bounds}
use Rattle.counted_code.specs.Pieces.{parts_term}
use Rattle.code_nesting.specs.declared.nesting.Nesting.{Nesting}
use Rattle.code_nesting.proofs.Nested.{parts_shallow}
use Rattle.code_nesting.proofs.nesting.Nesting.parts_have_room.Goals as goal

pub returns-in-Known : goal.returns-in-Known
returns-in-Known c room levels known =
    let code = code_program c.args.code.now in
    let needs = c.in-Known.needs.items in
    let small : c.parts_need.result ≤ 1000 = leb-true c.parts_need.result 1000 room in
    parts_shallow code needs levels (subst (λ (s : Nesting). Bounds s code levels) c.in-Known.is known) c.args.parts.now c.parts_need.result small
    (subst (λ (t : List ℕ). PartsNeed code needs t (parts_term c.args.parts.now) c.parts_need.result) c.deref-in-Known.ensures.value
    (subst (λ (t : List ℕ). PartsNeed code t c.deref-in-Known.result.now (parts_term c.args.parts.now) c.parts_need.result) c.deref.ensures.value (c.parts_need.ensures small)))

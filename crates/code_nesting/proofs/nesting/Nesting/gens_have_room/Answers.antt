use Rattle.std.proofs.Common.{ℕ, ◌≤◌, List, subst}
use Rattle.std.proofs.lemmas.Bool.{leb-true}
use Rattle.counted_code.specs.View.{code_program}
use Rattle.code_nesting.specs.Needs.{GensNeed}
use Rattle.code_nesting.specs.Promised.{Bounds}
use Rattle.counted_code.specs.Pieces.{gens_term}
use Rattle.code_nesting.specs.declared.nesting.Nesting.{Nesting}
use Rattle.code_nesting.proofs.Nested.{gens_shallow}
use Rattle.code_nesting.proofs.nesting.Nesting.gens_have_room.Goals as goal

pub returns-in-Known : goal.returns-in-Known
returns-in-Known c room levels known =
    let code = code_program c.args.code.now in
    let needs = c.in-Known.needs.items in
    let small : c.gens_need.result ≤ 1000 = leb-true c.gens_need.result 1000 room in
    gens_shallow code needs levels (subst (λ (s : Nesting). Bounds s code levels) c.in-Known.is known) c.args.gens.now c.gens_need.result small
    (subst (λ (t : List ℕ). GensNeed code needs t (gens_term c.args.gens.now) c.gens_need.result) c.deref-in-Known.ensures.value
    (subst (λ (t : List ℕ). GensNeed code t c.deref-in-Known.result.now (gens_term c.args.gens.now) c.gens_need.result) c.deref.ensures.value (c.gens_need.ensures small)))

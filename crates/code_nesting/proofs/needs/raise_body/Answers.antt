use Rattle.std.proofs.Common.{ℕ, ◌≤◌, ◌<◌, ◌∙◌, List, length, subst, arith}
use Rattle.std.proofs.lemmas.Grind.{get_or_default_zero}
use Rattle.counted_code.specs.View.{code_program, code_term}
use Rattle.code_nesting.specs.Needs.{Needs}
use Rattle.code_nesting.proofs.Closed.{closed_at}
use Rattle.code_nesting.proofs.needs.raise_body.Goals as goal

pub returns-then-need-index-clause-closed : goal.returns-then-need-index-clause-closed
returns-then-need-index-clause-closed c _ =
    let code = c.args.code.now in
    let here = c.args.here.now.items in
    let need = c.block_need-need in
    let there : c.args.place < length here = omega (arith, c.requires.within, c.requires.sized) in
    closed_at code c.args.below.now here c.args.place need.result c.index.result.now c.requires.within c.index.ensures
    (λ small. subst (λ (t : List ℕ). Needs (code_program code) c.args.below.now t (code_term c.index.result.now.body) need.result) c.deref.ensures.value (need.ensures small))
    (subst (λ (v : ℕ). need.result ≤ v) (c.index-2.ensures ∙ get_or_default_zero here c.args.place c.index-2.result.now there) c.if-need-index.true)

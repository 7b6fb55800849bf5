use Rattle.std.proofs.Common.{◌≡◌, Option, Some, None, refl, sym, ◌∙◌}
use Rattle.sac_ast.specs.View.{program}
use Rattle.check_rules.specs.Accepted.{violations}
use Rattle.check_rules.proofs.Earliest.{first_is, no_first}
use Rattle.type_check.proofs.Whole.{program_is}
use Rattle.type_check.proofs.program.check.Goals as goal

none_where : {A : Type 0} (r : Option A) → ((x : A) → r ≡ Some x → ⊥) → r ≡ None
none_where None h = refl
none_where (Some x) h = absurd (h x refl)

pub returns-in-Some-clause-refused : goal.returns-in-Some-clause-refused
returns-in-Some-clause-refused c =
    let p = program c.args.program in
    first_is (violations p) c.in-Some.violation (sym (program_is p) ∙ sym c.in-Ok.ensures ∙ c.in-Some.is)

pub returns-in-Ok-main_bases-clause-accepted : goal.returns-in-Ok-main_bases-clause-accepted
returns-in-Ok-main_bases-clause-accepted c =
    let p = program c.args.program in
    no_first (violations p) (sym (program_is p) ∙ sym c.in-Ok.ensures ∙ none_where c.in-Ok.first c.in_default.not-Some)

pub invariant_of-result : goal.invariant_of-result
invariant_of-result c =
    let p = program c.args.program in
    record { accepted = no_first (violations p) (sym (program_is p) ∙ sym c.in-Ok.ensures ∙ none_where c.in-Ok.first c.in_default.not-Some) }

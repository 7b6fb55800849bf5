use Rattle.std.proofs.Common.{◌≡◌, Option, subst, ap, ◌∙◌}
use Rattle.std.specs.Prelude.{IfOk}
use Rattle.sac_ast.specs.View.{function}
use Rattle.check_rules.specs.declared.violation.Violation.{Violation}
use Rattle.check_rules.specs.Accepted.{with_names, param_names, no_names, known_params, none_known}
use Rattle.check_rules.specs.Places.{place}
use Rattle.type_check.specs.Inside.{found_inside}
use Rattle.type_check.proofs.program.in_place.Goals as goal

pub returns : goal.returns
returns c =
    let p = place c.args.here.now in
    let f = function c.args.f.now in
    let start = c.in_ok-bound.ensures ∙ ap (λ ps. with_names (param_names ps) no_names) c.deref.ensures.value in
    let known = c.in_ok-known.ensures ∙ ap (λ ps. known_params ps none_known) c.deref-2.ensures.value in
    subst (λ (v : Option Violation). IfOk c.behind_params.result (λ r. r ≡ v)) (λ j. found_inside c.args.twice p f (start j) (known j)) c.behind_params.ensures

use Rattle.std.proofs.Common.{◌≡◌, Option, subst, take, ap, ◌∙◌}
use Rattle.std.specs.Prelude.{IfOk}
use Rattle.sac_ast.specs.View.{function, functions}
use Rattle.check_rules.specs.declared.violation.Violation.{Violation}
use Rattle.check_rules.specs.Accepted.{Place, with_names, param_names, no_names, known_params, none_known}
use Rattle.check_rules.specs.Tables.{has}
use Rattle.check_rules.specs.Walk.{in_function, repeated_params}
use Rattle.type_check.specs.Inside.{found_inside}
use Rattle.type_check.proofs.program.inside_function.Goals as goal

pub returns : goal.returns
returns c =
    let fs = functions c.args.functions.now.all.now in
    let before = functions (take c.args.at c.args.functions.now.all.now) in
    let f = function c.args.f.now in
    let start = with_names (param_names f.params) no_names in
    let known = known_params f.params none_known in
    let twice = c.in_ok-twice.ensures ∙ ap (repeated_params no_names) c.deref.ensures.value in
    let same : found_inside c.in_ok-twice.twice (record { functions = fs; before = before; inline = f.inline; listed = has c.in_ok-listed.field-0 }) f start known ≡ in_function fs before f =
    (λ j. let p : Place = record { functions = fs; before = before; inline = f.inline; listed = c.in_ok-listed.ensures j } in found_inside (twice j) p f start known) in
    subst (λ (v : Option Violation). IfOk c.in_place.result (λ r. r ≡ v)) same c.in_place.ensures

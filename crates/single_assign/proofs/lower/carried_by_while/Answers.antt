use Rattle.std.proofs.Common.{ap, ◌∙◌}
use Rattle.core_lowering.specs.steps.Looks.{vars_of}
use Rattle.core_lowering.specs.steps.Building.{bound_in, declared}
use Rattle.core_scopes.specs.Looks.{look, texts}
use Rattle.core_scopes.specs.Built.{built}
use Rattle.single_assign.proofs.lower.carried_by_while.Goals as goal

pub returns : goal.returns
returns c =
    let l = look c.args.scope.now in
    let s = built c.args.out.now in
    let names = c.in_ok-names.ensures ∙ ap (λ xs. bound_in l (texts xs)) c.deref.ensures.value ∙ ap (bound_in l) c.in_ok-bound.ensures in
    let start = c.in_ok-start.ensures ∙ ap (λ xs. vars_of l (texts xs)) c.deref-2.ensures.value ∙ ap (vars_of l) names in
    let params = c.in_ok-params.ensures ∙ ap (λ xs. declared (texts xs) l s) c.deref-3.ensures.value ∙ (λ j. declared (names j) l s) in
    λ j. record { state = (params j).state; names = names j; start = start j; params = (params j).results; scope = (params j).scope }

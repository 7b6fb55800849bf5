use Rattle.std.proofs.Common.{ap, ◌∙◌}
use Rattle.core_lowering.specs.steps.Building.{declared}
use Rattle.core_scopes.specs.Looks.{look, texts}
use Rattle.core_scopes.specs.Built.{built}
use Rattle.single_assign.specs.Views.{make_starts_in}
use Rattle.single_assign.proofs.lower.carried_by_do.Goals as goal

pub returns : goal.returns
returns c =
    let cx = c.args.cx.now in
    let l = look c.args.scope.now in
    let s = built c.args.out.now in
    let names = c.in_ok-names.ensures in
    let start = c.in_ok-start.ensures ∙ ap (λ xs. make_starts_in cx c.args.site (texts xs) l s) c.deref.ensures.value ∙ (λ j. make_starts_in cx c.args.site (names j) l s) in
    let params = c.in_ok-params.ensures ∙ ap (λ xs. declared (texts xs) l (built c.starts.new.out)) c.deref-2.ensures.value ∙ (λ j. declared (names j) l (start j).state) in
    λ j. record { state = (params j).state; names = names j; start = (start j).results; params = (params j).results; scope = (params j).scope }

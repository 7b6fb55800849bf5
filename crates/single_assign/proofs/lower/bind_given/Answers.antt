use Rattle.std.proofs.Common.{ap, ◌∙◌}
use Rattle.core_lowering.specs.steps.Building.{declared}
use Rattle.core_lowering.proofs.steps.Arms.{given_arm}
use Rattle.core_scopes.specs.Looks.{look, texts}
use Rattle.core_scopes.specs.Built.{built}
use Rattle.core_scopes.proofs.Scopes.{on_ok_then}
use Rattle.single_assign.specs.Views.{made_given}
use Rattle.single_assign.proofs.lower.bind_given.Goals as goal

pub returns-in-Ok : goal.returns-in-Ok
returns-in-Ok c =
    let a = c.args in
    let l = look a.scope.now in
    let s = built a.out.now in
    let names = c.in-Ok.ensures ∙ ap (λ xs. declared (texts xs) l s) c.deref.ensures.value in
    on_ok_then c.push.result (λ put. given_arm a.site l (made_given s a.given) names put) c.push.ensures

use Rattle.std.proofs.Common.{ap, ◌∙◌, map}
use Rattle.sac_ast.specs.View.{functions}
use Rattle.core_lowering.specs.Programs.{places_of}
use Rattle.core_scopes.specs.Looks.{texts}
use Rattle.single_assign.specs.Functions.{functions_by}
use Rattle.single_assign.specs.Views.{place_by}
use Rattle.single_assign.proofs.program.lower_named.Goals as goal

pub returns : goal.returns
returns c =
    let names = c.args.names.now in
    let groups = c.in_ok-groups.ensures ∙ ap (λ fs. map (λ x. places_of x 0 (functions fs)) (texts names.keys)) c.deref.ensures.value in
    let funs = c.in_ok-functions.ensures ∙ ap (λ fs. functions_by (place_by names) (functions fs) (functions fs)) c.deref-2.ensures.value in
    λ j. record { functions = funs j; groups = groups j; main = c.in_ok-main.ensures j }

use Rattle.std.proofs.Common.{◌≡◌, ap, subst, map}
use Rattle.std.specs.Prelude.{IfOk}
use Rattle.sac_ast.specs.View.{functions}
use Rattle.core_ir.specs.View.{fun_term}
use Rattle.single_assign.specs.Functions.{functions_by}
use Rattle.single_assign.specs.Views.{place_by}
use Rattle.single_assign.proofs.program.lower_functions.Goals as goal

pub returns : goal.returns
returns c =
    let all = c.args.functions.now in
    subst (λ m. IfOk c.lower_each.result (λ v. map fun_term v.items ≡ m))
    (ap (λ gs. functions_by (place_by c.args.names.now) (functions gs) (functions all)) c.in_ok-by_name.ensures) c.lower_each.ensures

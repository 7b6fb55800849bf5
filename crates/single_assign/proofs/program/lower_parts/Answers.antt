use Rattle.std.proofs.Common.{◌≡◌, ap, ◌∙◌, subst}
use Rattle.std.specs.Prelude.{IfOk}
use Rattle.sac_ast.specs.View.{function}
use Rattle.core_lowering.proofs.steps.Whole.{function_is}
use Rattle.single_assign.specs.Functions.{function_from, with_parts}
use Rattle.single_assign.specs.Views.{group_in, base_of_in, name_base_in}
use Rattle.single_assign.proofs.program.lower_parts.Goals as goal

pub returns : goal.returns
returns c =
    let f = function c.args.f.now in
    let cx = c.args.cx.now in
    subst (λ m. IfOk c.lower_parts_in.result (λ p. with_parts f p ≡ m))
    (ap (function_from cx f) c.new-scope.ensures ∙ function_is (group_in cx) (base_of_in cx) (name_base_in cx) f) c.lower_parts_in.ensures

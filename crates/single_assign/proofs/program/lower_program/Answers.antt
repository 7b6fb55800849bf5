use Rattle.std.proofs.Common.{◌≡◌, ap, ◌∙◌, subst}
use Rattle.std.specs.Prelude.{IfOk}
use Rattle.sac_ast.specs.View.{functions, program}
use Rattle.core_ir.specs.View.{core_term}
use Rattle.core_lowering.specs.Programs.{function_names}
use Rattle.single_assign.specs.Functions.{program_named}
use Rattle.single_assign.proofs.program.lower_program.Goals as goal

pub returns : goal.returns
returns c =
    let names = c.in_ok-names.ensures ∙ ap (λ fs. function_names (functions fs)) c.deref.ensures.value in
    subst (λ m. IfOk c.lower_named.result (λ core. core_term core ≡ m)) (λ j. program_named (names j) (program c.args.program.now)) c.lower_named.ensures

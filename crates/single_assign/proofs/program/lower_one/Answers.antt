use Rattle.std.proofs.Common.{◌≡◌, ◌∙◌, subst}
use Rattle.std.specs.Prelude.{IfOk}
use Rattle.sac_ast.specs.Bases.{base, base_of_name, call_bases_in}
use Rattle.sac_ast.specs.View.{function, functions}
use Rattle.core_ir.specs.View.{fun_term}
use Rattle.source_meaning.specs.Meaning.{or_int}
use Rattle.core_lowering.specs.steps.Functions.{function_by}
use Rattle.single_assign.specs.Views.{place_by}
use Rattle.single_assign.proofs.program.lower_one.Goals as goal

pub returns : goal.returns
returns c =
    let f = function c.args.f.now in
    let fs = functions c.args.functions.now.all.now in
    let known = c.in_ok-known.ensures in
    subst (λ m. IfOk c.lower_function.result (λ core. fun_term core ≡ m))
    (λ i. function_by (place_by c.args.names.now) (base (call_bases_in fs) (known i)) (λ x. or_int (base_of_name (known i) x)) f)
    c.lower_function.ensures

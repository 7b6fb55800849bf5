use Rattle.std.proofs.Common.{◌≡◌, refl, true, ap, sym, ◌∙◌, subst, length, Some}
use Rattle.sac_base.specs.Types.{all_have}
use Rattle.sac_ast.specs.View.{function}
use Rattle.sac_ast.specs.declared.Function.{Function}
use Rattle.source_meaning.specs.Parameters.{types_of_params}
use Rattle.value_meaning.specs.Evaluation.{main_at}
use Rattle.array_ops.specs.Tells.{TellsItems}
use Rattle.value_meaning.proofs.CallSteps.{function_at, main_steps}
use Rattle.value_meaning.proofs.program.run_main.Goals as goal

pub returns : goal.returns
returns c = λ end.
    let fs = c.args.functions.now in
    let f = c.index-functions-place.result in
    let here = function_at fs c.args.place f c.requires ∙ ap (λ (g : Function). Some (function g)) (sym c.index-functions-place.is) in
    let copies = c.in_ok-args.args.items in
    let fits : all_have (types_of_params f.params.items) copies ≡ true =
    ap (λ ps. all_have (types_of_params ps) copies) (sym c.deref.ensures.value)
    ∙ ap (all_have (types_of_params c.deref.result.now)) c.in_ok-args.ensures
    ∙ sym c.all_fit.ensures ∙ c.if-not-all_fit.false in
    let whole = main_steps fs c.args.place f copies c.args.caps end (length fs) here fits refl in
    let same = ap (λ args. main_at fs c.args.place args c.args.caps end) c.in_ok-args.ensures in
    subst (λ m. TellsItems c.run_function.result m) (sym whole ∙ same) c.run_function.ensures

use Rattle.std.proofs.Common.{rules, ◌<◌, ◌+◌, length, take, drop, sym, ap, ◌∙◌}
use Rattle.sac_ast.specs.View.{function, functions}
use Rattle.sac_ast.specs.declared.Function.{Function}
use Rattle.check_rules.specs.First.{earlier}
use Rattle.check_rules.specs.Programs.{in_functions, one_function}
use Rattle.type_check.proofs.Whole.{functions_step}
use Rattle.type_check.proofs.program.all_functions.Goals as goal

pub loop-at-preserved : goal.loop-at-preserved
loop-at-preserved c =
    let fs = c.args.functions.now.all.now in
    let k = c.loop-at.at in
    let f = c.index-functions-at.result in
    let below : k < length fs = search rules in
    let told = c.in_ok-one.ensures ∙ ap (λ (x : Function). one_function (functions fs) (functions (take k fs)) (function x)) (sym c.index-functions-at.is) in
    ap (λ r. earlier r (in_functions (functions fs) (functions (take (k + 1) fs)) (functions (drop (k + 1) fs)))) c.earlier-first.ensures
    ∙ functions_step c.loop-at.first c.in_ok-one.one fs k f below c.index-functions-at.is told
    ∙ c.loop-at.invariant

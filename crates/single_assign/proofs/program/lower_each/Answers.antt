use Rattle.std.proofs.Common.{rules, ◌<◌, ◌+◌, ◌++◌, ◌∷◌, sym, ap, ◌∙◌, length, drop, map}
use Rattle.std.proofs.lemmas.List.{drop_more}
use Rattle.sac_ast.specs.View.{function, functions}
use Rattle.core_ir.specs.View.{fun_term}
use Rattle.single_assign.specs.Functions.{function_of, functions_by}
use Rattle.single_assign.specs.Views.{place_by}
use Rattle.single_assign.proofs.Whole.{map_next}
use Rattle.single_assign.proofs.program.lower_each.Goals as goal

pub loop-f-preserved : goal.loop-f-preserved
loop-f-preserved c =
    let all = c.args.functions.now in
    let fs = functions c.args.all.now.all.now in
    let k = c.loop-f.f-index in
    let group = place_by c.args.names.now in
    let item = c.f-item.result in
    let cores = c.loop-f.cores.items in
    let below : k < length all = search rules in
    let rest = functions_by group fs (functions (drop (k + 1) all)) in
    let one = c.in_ok-core.ensures ∙ ap (λ f. function_of group fs (function f)) c.f-item.is in
    (λ i. map fun_term (c.in_ok-push.ensures.items i) ++ rest)
    ∙ map_next fun_term cores c.in_ok-core.core rest
    ∙ (λ i. map fun_term cores ++ (one i ∷ rest))
    ∙ (λ i. map fun_term cores ++ functions_by group fs (functions (sym (drop_more all k item below) i)))
    ∙ c.loop-f.invariant

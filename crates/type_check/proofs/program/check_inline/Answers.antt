use Rattle.std.proofs.Common.{rules, ◌<◌, ◌+◌, ◌∷◌, length, drop, sym, ap, ◌∙◌}
use Rattle.std.proofs.lemmas.List.{drop_more}
use Rattle.sac_ast.specs.View.{function, functions}
use Rattle.check_rules.specs.First.{earlier}
use Rattle.check_rules.specs.Programs.{mains, inline_mains}
use Rattle.check_rules.proofs.Clashing.{inline_step}
use Rattle.type_check.proofs.program.check_inline.Goals as goal

pub loop-f-preserved : goal.loop-f-preserved
loop-f-preserved c =
    let fs = c.args.functions.now in
    let k = c.loop-f.f-index in
    let f = c.f-item.result in
    let below : k < length fs = search rules in
    let rest = functions (drop (k + 1) fs) in
    ap (λ r. earlier r (inline_mains (mains rest))) (c.earlier-first.ensures ∙ ap (earlier c.loop-f.first) c.check_main.ensures)
    ∙ inline_step c.loop-f.first (function f) rest
    ∙ ap (λ gs. earlier c.loop-f.first (inline_mains (mains (functions gs)))) (sym (drop_more fs k f below ∙ ap (λ x. x ∷ drop (k + 1) fs) (sym c.f-item.is)))
    ∙ c.loop-f.invariant

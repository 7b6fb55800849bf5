use Rattle.std.proofs.Common.{rules, ◌<◌, ◌+◌, ◌++◌, ◌∷◌, sym, ap, ◌∙◌, length, drop}
use Rattle.sac_ast.specs.View.{functions}
use Rattle.core_scopes.specs.Looks.{texts}
use Rattle.core_scopes.proofs.Once.{among, once_but, once_start, names_left}
use Rattle.single_assign.proofs.Whole.{insert_once, names_next}
use Rattle.single_assign.proofs.program.function_names.Goals as goal

pub loop-f-init : goal.loop-f-init
loop-f-init c =
    let left = names_left (functions c.args.functions.now) in
    (λ i. texts (c.new-names.ensures.empty i) ++ once_but (among (c.new-names.ensures.empty i)) left) ∙ once_start left

pub loop-f-preserved : goal.loop-f-preserved
loop-f-preserved c =
    let fs = c.args.functions.now in
    let k = c.loop-f.f-index in
    let keys = c.loop-f.names.keys in
    let below : k < length fs = search rules in
    let rest = names_left (functions (drop (k + 1) fs)) in
    let name_is = c.as_str.ensures.bytes ∙ ap (λ f. f.name) c.f-item.is in
    (λ i. texts (c.in_ok-insert.ensures.keys i) ++ once_but (among (c.in_ok-insert.ensures.keys i)) rest)
    ∙ insert_once keys c.as_str.result rest
    ∙ (λ i. texts keys ++ once_but (among keys) (name_is i ∷ rest))
    ∙ (λ i. texts keys ++ once_but (among keys) (sym (names_next fs k c.f-item.result below) i))
    ∙ c.loop-f.invariant

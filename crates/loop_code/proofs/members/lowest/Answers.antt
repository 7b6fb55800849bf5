use Rattle.std.proofs.Common.{◌++◌, ◌∷◌, [], ap, sym, ◌∙◌, get_or, FitsSigned, w64, rules}
use Rattle.std.proofs.lemmas.Int.{to_z-of_z}
use Rattle.std.proofs.lemmas.List.{map_more}
use Rattle.sac_base.specs.declared.grid.Grid1.{Grid1}
use Rattle.loop_code.proofs.members.lowest.Goals as goal

pub loop-axis-preserved : goal.loop-axis-preserved
loop-axis-preserved c =
    let xs = c.axes-axis-items.result.now in
    let k = c.loop-axis.axis-index in
    let a = c.axis-item.result in
    let fits : FitsSigned w64 c.axis-item.result.lo = search rules in
    let kept = to_z-of_z w64 a.lo fits ∙ ap (λ (b : Grid1). b.lo) c.axis-item.is in
    c.in_ok-push.ensures.items ∙ ap (λ z. c.loop-axis.low.items ++ z ∷ []) kept ∙ ap (λ zs. zs ++ (get_or xs k a).lo ∷ []) c.loop-axis.invariant
    ∙ sym (map_more (λ (b : Grid1). b.lo) xs k a c.loop-axis-test.true)

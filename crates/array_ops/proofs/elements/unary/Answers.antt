use Rattle.std.proofs.Common.{◌≡◌, ap, ◌∙◌, sym, get_or, pos, rules, FitsSigned, w32, ◌++◌, ◌∷◌, [], arith}
use Rattle.std.proofs.lemmas.Int.{to_z-of_z}
use Rattle.std.proofs.lemmas.List.{map_more}
use Rattle.sac_base.specs.Operators.{apply_one}
use Rattle.array_ops.proofs.elements.unary.Goals as goal

pub loop-cell-preserved : goal.loop-cell-preserved
loop-cell-preserved c =
    let xs = c.cells-cells.result.now in
    let i = c.loop-cell.cell-index in
    let z = get_or xs i (pos 0) in
    let fits : FitsSigned w32 z = search rules in
    let f = apply_one c.args.op in
    let value : c.apply1.result ≡ f z = c.apply1.ensures ∙ ap f (to_z-of_z w32 z fits) in
    let pushed : c.push_reserved.new.self.items ≡ c.loop-cell.values.items ++ f z ∷ [] =
    c.push_reserved.ensures.items ∙ ap (λ v. c.loop-cell.values.items ++ v ∷ []) (to_z-of_z w32 c.apply1.result (record { sfits = c.apply1.type_inv }) ∙ value) in
    (pushed ∙ ap (λ ys. ys ++ f z ∷ []) c.loop-cell.invariant.0 ∙ sym (map_more f xs i (pos 0) c.loop-cell-test.true), omega (arith, c.push_reserved.ensures.capacity))

use Rattle.std.proofs.Common.{◌≡◌, ℤ, List, length, map, unsigned_abs, IfSome, Ok, ap, ◌∙◌, sym, subst}
use Rattle.sac_base.specs.Arrays.{ArrayValue, size}
use Rattle.sac_base.specs.Operators.{binary, result_base}
use Rattle.counted_code.specs.Values.{read}
use Rattle.run_store.specs.Stands.{Stands}
use Rattle.run_values.specs.Numbers.{numbers}
use Rattle.run_values.specs.Shown.{value_of}
use Rattle.run_plain.proofs.together.array_together.Goals as goal

pub returns-clause-array : goal.returns-clause-array
returns-clause-array g c m stands =
    let shape = map unsigned_abs (numbers c.in-Buffer.extents) in
    let left = c.in_ok-left.left.now in
    let right = read m (value_of c.args.b) in
    let made = c.in_ok-array_of.ensures.array in
    let then : Stands (record c.args.heap.now { own = c.take_spare.new.self }) m =
    subst (λ h. Stands (record c.args.heap.now { own = h }) m) (sym c.take_spare.ensures.heap) stands in
    let full : size shape ≡ length left =
    ap (λ (a : ArrayValue). size a.shape) (sym made) ∙ c.in_ok-array_of.ensures.full ∙ ap (λ (a : ArrayValue). length a.cells) made
    ∙ subst (λ o. IfSome o (λ cells. length cells.items ≡ length left)) c.in-Some.is c.in_ok-cells.ensures.length in
    ap (λ v. binary c.args.op (read m (value_of v)) right) c.in-Buffer.is
    ∙ ap (λ (cells : List ℤ). binary c.args.op (record { base = c.in-Buffer.field-0; shape = shape; cells = cells }) right) (sym (c.in_ok-left.ensures m then))
    ∙ subst (λ o. IfSome o (λ cells. binary c.args.op (record { base = c.in-Buffer.field-0; shape = shape; cells = left }) right
    ≡ Ok (record { base = result_base c.args.op; shape = shape; cells = cells.items }))) c.in-Some.is (c.in_ok-cells.ensures.array m c.in-Buffer.field-0 then full)
    ∙ ap (λ b. Ok (record { base = b; shape = shape; cells = c.in-Some.cells.items })) (sym c.result_base.ensures) ∙ ap (λ (a : ArrayValue). Ok a) (sym made)

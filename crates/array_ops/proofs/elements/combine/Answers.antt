use Rattle.std.proofs.Common.{◌≡◌, ap, ◌∙◌, sym, refl, length, rules, FitsSigned, w32, to_z, of_z, ◌++◌, ◌∷◌, [], arith, Ok, Err, ◌+◌, drop}
use Rattle.std.proofs.lemmas.Int.{to_z-of_z}
use Rattle.std.proofs.lemmas.List.{length_push}
use Rattle.sac_base.specs.Operators.{apply_two, combined}
use Rattle.array_ops.specs.Operands.{cells_of, cell_at}
use Rattle.array_ops.proofs.Combining.{with_done, cell_read, pair_done, pair_fails}
use Rattle.array_ops.proofs.elements.combine.Goals as goal

pub returns-in-Err-clause-cells : goal.returns-in-Err-clause-cells
returns-in-Err-clause-cells c =
    let op = c.args.op in
    let k = c.loop-k.k in
    let n = c.args.n in
    let x = cell_read c.args.left n k c.loop-k-test.true c.requires.left in
    let y = cell_read c.args.right n k c.loop-k-test.true c.requires.right in
    let a : c.at.result ≡ cell_at c.args.left k = c.at.ensures in
    let b : c.at-in-loop-k.result ≡ cell_at c.args.right k = c.at-in-loop-k.ensures in
    let u = to_z-of_z w32 c.at.result (record { sfits = c.at.type_inv }) ∙ a in
    let v = to_z-of_z w32 c.at-in-loop-k.result (record { sfits = c.at-in-loop-k.type_inv }) ∙ b in
    let applied : apply_two op (cell_at c.args.left k) (cell_at c.args.right k) ≡ Err c.in-Err.field-0 =
    sym (c.apply2.ensures ∙ ap (λ z. apply_two op z (to_z w32 (of_z w32 c.at-in-loop-k.result))) u ∙ ap (apply_two op (cell_at c.args.left k)) v) ∙ c.in-Err.is in
    (refl, pair_fails op (cells_of n c.args.left) (cells_of n c.args.right) c.loop-k.values.items k _ _ c.in-Err.field-0 _ x.0 y.0 x.1 y.1 applied c.loop-k.invariant.0)

pub loop-k-preserved : goal.loop-k-preserved
loop-k-preserved c =
    let op = c.args.op in
    let k = c.loop-k.k in
    let n = c.args.n in
    let x = cell_read c.args.left n k c.loop-k-test.true c.requires.left in
    let y = cell_read c.args.right n k c.loop-k-test.true c.requires.right in
    let a : c.at.result ≡ cell_at c.args.left k = c.at.ensures in
    let b : c.at-in-loop-k.result ≡ cell_at c.args.right k = c.at-in-loop-k.ensures in
    let u = to_z-of_z w32 c.at.result (record { sfits = c.at.type_inv }) ∙ a in
    let v = to_z-of_z w32 c.at-in-loop-k.result (record { sfits = c.at-in-loop-k.type_inv }) ∙ b in
    let applied : apply_two op (cell_at c.args.left k) (cell_at c.args.right k) ≡ Ok c.in-Ok.value =
    sym (c.apply2.ensures ∙ ap (λ z. apply_two op z (to_z w32 (of_z w32 c.at-in-loop-k.result))) u ∙ ap (apply_two op (cell_at c.args.left k)) v) ∙ c.in-Ok.is in
    let fits : FitsSigned w32 c.in-Ok.value = search rules in
    let pushed : c.push_reserved.new.self.items ≡ c.loop-k.values.items ++ c.in-Ok.value ∷ [] =
    c.push_reserved.ensures.items ∙ ap (λ z. c.loop-k.values.items ++ z ∷ []) (to_z-of_z w32 c.in-Ok.value fits) in (
      ap (λ zs. with_done zs (combined op (drop (k + 1) (cells_of n c.args.left)) (drop (k + 1) (cells_of n c.args.right)))) pushed
          ∙ pair_done op (cells_of n c.args.left) (cells_of n c.args.right) c.loop-k.values.items k _ _ c.in-Ok.value _ x.0 y.0 x.1 y.1 applied c.loop-k.invariant.0,
      ap length pushed ∙ length_push c.loop-k.values.items c.in-Ok.value ∙ ap (λ m. m + 1) c.loop-k.invariant.1,
      omega (arith, c.push_reserved.ensures.capacity),
    )

use Rattle.std.proofs.Common.{◌≡◌, ◌<◌, ℤ, pos, negsuc, ◌-ℤ◌, List, [], ◌∷◌, ◌++◌, All, length, get_or, take, map, ◌∙◌, ap, sym, subst, arith, refl, FitsSigned, w32, to_z, of_z}
use Rattle.std.proofs.lemmas.Int.{ints, to_z-of_z}
use Rattle.std.proofs.lemmas.List.{map_more}
use Rattle.sac_base.specs.Shapes.{IsExtent}
use Rattle.array_with_loops.proofs.BoundSteps.{last_all}
use Rattle.array_with_loops.proofs.bounds.last_index.Goals as goal

-- an extent is read as it is, and one less fits too
extent_kept : (z : ℤ) → IsExtent z → to_z w32 (of_z w32 z) ≡ z
extent_kept (pos n) h = to_z-of_z w32 (pos n) (record { sfits = h })
extent_kept (negsuc n) h = absurd h

less_fits : (z : ℤ) → IsExtent z → FitsSigned w32 (z -ℤ pos 1)
less_fits z h = below z (z -ℤ pos 1) refl h
  where
    below : (z y : ℤ) → y ≡ z -ℤ pos 1 → IsExtent z → FitsSigned w32 y
    below (pos n) (pos m) e h = record { sfits = omega (arith, ints) }
    below (pos n) (negsuc m) e h = record { sfits = omega (arith, ints) }
    below (negsuc n) y e h = absurd h

pub overflow_sub-n : goal.overflow_sub-n
overflow_sub-n c =
    let items = c.extents-n-items.result.now in
    let k = c.loop-n.n-index in
    let here = c.extents-n-items.ensures.extents.each k (pos 0) c.loop-n-test.true in
    subst (λ z. FitsSigned w32 (z -ℤ pos 1)) (sym (extent_kept (get_or items k (pos 0)) here)) (less_fits (get_or items k (pos 0)) here)

pub loop-n-preserved : goal.loop-n-preserved
loop-n-preserved c =
    let items = c.extents-n-items.result.now in
    let k = c.loop-n.n-index in
    let here = c.extents-n-items.ensures.extents.each k (pos 0) c.loop-n-test.true in
    let z = get_or items k (pos 0) in
    let kept : to_z w32 (of_z w32 (to_z w32 (of_z w32 z) -ℤ pos 1)) ≡ z -ℤ pos 1 = ap (λ y. to_z w32 (of_z w32 (y -ℤ pos 1))) (extent_kept z here) ∙ to_z-of_z w32 (z -ℤ pos 1) (less_fits z here) in
    c.in_ok-push.ensures.items ∙ ap (λ y. c.loop-n.zs.items ++ y ∷ []) kept ∙ ap (λ ys. ys ++ (z -ℤ pos 1) ∷ []) c.loop-n.invariant
    ∙ sym (map_more (λ y. y -ℤ pos 1) items k (pos 0) c.loop-n-test.true)

pub returns : goal.returns
returns c = c.loop-n.invariant ∙ last_all c.args.frame.now c.loop-n.n-index c.extents-n-items.result.now c.extents-n-items.ensures.value c.loop-n-test.false

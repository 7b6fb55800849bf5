use Rattle.std.proofs.Common.{◌≡◌, ℕ, ◌<◌, ◌≤◌, ◌-◌, ◌^◌, ap, ◌∙◌, subst, sym, refl, List, drop, length, ℤ, pos, get_or, Some, FitsSigned, w32, to_z, of_z, arith, rules, All}
use Rattle.std.proofs.lemmas.Int.{to_z-of_z}
use Rattle.std.proofs.lemmas.List.{length-map, take_rest}
use Rattle.std.proofs.lemmas.List.Elements.{All-drop}
use lib.IntN.{nat_abs}
use Rattle.sac_base.specs.Arrays.{size, MOST}
use Rattle.sac_base.specs.Parts.{part_at}
use Rattle.sac_base.specs.Places.{is_below, start_of}
use Rattle.sac_base.specs.Shapes.{IsExtent}
use Rattle.sac_base.proofs.Extents.{read_extent}
use Rattle.sac_base.proofs.RowMajor.{too_long, not_below, place_turn, first_stride}
use Rattle.sac_base.proofs.places.offset.Goals as goal

at_start : (ns : List ℕ) (is : List ℤ) (k stride start : ℕ) (rest : List ℕ) → k ≡ 0
    → (size (drop k ns) ≤ MOST → (stride ≡ size (drop k ns)) × (part_at (drop k ns) (drop k is) ≡ Some (record { start = start; shape = rest })))
    → size ns ≤ MOST → part_at ns is ≡ Some (record { start = start; shape = rest })
at_start ns is k stride start rest e h small =
    let P : ℕ → Type 0 = λ j. size (drop j ns) ≤ MOST → (stride ≡ size (drop j ns)) × (part_at (drop j ns) (drop j is) ≡ Some (record { start = start; shape = rest })) in
    (subst P e h small).1

pub returns-then-index-extents : goal.returns-then-index-extents
returns-then-index-extents c =
    let ns = c.args.shape.now in
    let long = ap length c.extents-extents.ensures.value ∙ length-map ns (λ x. pos x) in
    sym (ap start_of (too_long ns c.args.index.now (omega arith)))

pub capped_product-stride-requires : goal.capped_product-stride-requires
capped_product-stride-requires c =
    let zs = c.extents-extents.result.now in
    let n = length c.args.index.now in
    subst (All IsExtent) (sym (take_rest zs n)) (All-drop IsExtent n zs c.extents-extents.ensures.extents.each)

pub loop-k-init : goal.loop-k-init
loop-k-init c =
    first_stride c.args.shape.now c.extents-extents.result.now c.args.index.now c.capped_product-stride.result c.extents-extents.ensures.value c.capped_product-stride.ensures

pub returns-then-not-is_component : goal.returns-then-not-is_component
returns-then-not-is_component c =
    let j = c.loop-k.k - 1 in
    let zs = c.extents-extents.result.now in
    let ns = c.args.shape.now in
    let is = c.args.index.now in
    let z = get_or is j (pos 0) in
    let fits : FitsSigned w32 (get_or zs j (pos 0)) = search rules in
    let fits_z : FitsSigned w32 z = search rules in
    let n = read_extent zs ns j _ c.extents-extents.ensures.value (omega arith) refl fits in
    let test = ap (λ x. is_below x (nat_abs (to_z w32 (of_z w32 (get_or zs j (pos 0)))))) (sym (to_z-of_z w32 z fits_z)) ∙ sym c.is_component.ensures ∙ c.if-not-is_component.true in
    sym (ap start_of (not_below ns is j _ z n.0 (omega arith) n.1 refl test))

pub loop-k-preserved : goal.loop-k-preserved
loop-k-preserved c =
    let j = c.loop-k.k - 1 in
    let zs = c.extents-extents.result.now in
    let ns = c.args.shape.now in
    let is = c.args.index.now in
    let z = get_or is j (pos 0) in
    let m = get_or zs j (pos 0) in
    let fits : FitsSigned w32 m = search rules in
    let fits_z : FitsSigned w32 z = search rules in
    let k = c.from-in-loop-k.result in
    let n_is : k ≡ nat_abs (to_z w32 (of_z w32 m)) = c.from-in-loop-k.ensures ∙ c.unsigned_abs-in-loop-k.ensures.value in
    let i_is : c.from.result ≡ nat_abs z = c.from.ensures ∙ c.unsigned_abs.ensures.value ∙ ap nat_abs (to_z-of_z w32 z fits_z) in
    let n = read_extent zs ns j k c.extents-extents.ensures.value (omega arith) n_is fits in
    let small : k < 2 ^ 31 = omega (arith, n.1, c.extents-extents.ensures.shape.each j 0 n.0) in
    let test = ap (is_below z) n_is ∙ ap (λ x. is_below x (nat_abs (to_z w32 (of_z w32 m)))) (sym (to_z-of_z w32 z fits_z)) ∙ sym c.is_component.ensures ∙ c.if-not-is_component.false in
    let turn = place_turn ns is c.loop-k.k j c.loop-k.stride c.loop-k.start c.from.result k z (omega arith) c.loop-k.invariant.0 n.0 n.1 small refl i_is test c.loop-k.invariant in
    (turn.0, omega (arith, turn.1, c.min-stride.ensures), turn.2, λ here. let all = turn.3 here in (c.min-stride.ensures ∙ all.0, all.1))

pub returns : goal.returns
returns c =
    let ns = c.args.shape.now in
    let is = c.args.index.now in
    let whole = at_start ns is c.loop-k.k c.loop-k.stride c.loop-k.start (drop (length is) ns) (omega arith) c.loop-k.invariant.3 c.requires in
    sym (ap start_of whole)

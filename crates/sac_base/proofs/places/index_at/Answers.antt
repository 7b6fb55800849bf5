use Rattle.std.proofs.Common.{◌≡◌, ◌<◌, ◌-◌, ◌%◌, ◌/◌, ◌^◌, ◌++◌, ap, ◌∙◌, subst, sym, drop, take, set, length, ℕ, ℤ, List, pos, get_or, FitsSigned, w32, to_z, arith, rules}
use Rattle.std.proofs.lemmas.Int.{ints}
use Rattle.std.proofs.lemmas.Nat.{mod_below}
use Rattle.std.proofs.lemmas.List.{length-map, take_all, drop_all, append-nil}
use Rattle.sac_base.specs.Arrays.{size}
use Rattle.sac_base.specs.Parts.{part_at}
use Rattle.sac_base.specs.Places.{vector_at}
use Rattle.sac_base.proofs.Extents.{read_extent}
use Rattle.sac_base.proofs.RowMajor.{some_extent, vector_step, part_at-vector_at}
use Rattle.sac_base.proofs.places.index_at.Goals as goal

-- after the last turn the whole vector is written
written : (ns : List ℕ) (into whole : List ℤ) (k rest : ℕ) → k ≡ 0 → vector_at (take k ns) rest ++ drop k into ≡ whole → into ≡ whole
written ns into whole k rest e h = subst (λ j. vector_at (take j ns) rest ++ drop j into ≡ whole) e h

pub loop-k-init : goal.loop-k-init
loop-k-init c =
    let ns = c.args.shape.now in
    let r = length c.extents-extents.result.now in
    let long = ap length c.extents-extents.ensures.value ∙ length-map ns (λ x. pos x) in
    let all : take r ns ≡ ns = take_all r ns (omega arith) in (
      omega arith,
      subst (λ xs. c.args.place < size xs) (sym all) c.requires.inside,
      ap (λ xs. vector_at (take r ns) c.args.place ++ xs) (drop_all r c.args.into.now (omega (arith, c.requires.fits))) ∙ append-nil (vector_at (take r ns) c.args.place)
          ∙ ap (λ xs. vector_at xs c.args.place) all,
    )

pub nonzero_rem-into : goal.nonzero_rem-into
nonzero_rem-into c =
    let j = c.loop-k.k - 1 in
    let zs = c.extents-extents.result.now in
    let fits : FitsSigned w32 (get_or zs j (pos 0)) = search rules in
    let n = read_extent zs c.args.shape.now j _ c.extents-extents.ensures.value (omega arith) (c.from-n.ensures ∙ c.unsigned_abs.ensures.value) fits in
    some_extent c.args.shape.now c.loop-k.k j _ c.loop-k.rest (omega arith) n.0 n.1 c.loop-k.invariant.1

pub overflow_cast-into : goal.overflow_cast-into
overflow_cast-into c =
    let j = c.loop-k.k - 1 in
    let zs = c.extents-extents.result.now in
    let fits : FitsSigned w32 (get_or zs j (pos 0)) = search rules in
    let n = read_extent zs c.args.shape.now j _ c.extents-extents.ensures.value (omega arith) (c.from-n.ensures ∙ c.unsigned_abs.ensures.value) fits in
    let small : c.from-n.result < 2 ^ 31 = omega (arith, n.1, c.extents-extents.ensures.shape.each j 0 n.0) in
    let positive = some_extent c.args.shape.now c.loop-k.k j _ c.loop-k.rest (omega arith) n.0 n.1 c.loop-k.invariant.1 in
    let low = mod_below c.loop-k.rest c.from-n.result positive in
    let within : c.loop-k.rest % c.from-n.result < 2 ^ 31 = omega arith in
    record { sfits = within }

pub nonzero_div-rest : goal.nonzero_div-rest
nonzero_div-rest c =
    let j = c.loop-k.k - 1 in
    let zs = c.extents-extents.result.now in
    let fits : FitsSigned w32 (get_or zs j (pos 0)) = search rules in
    let n = read_extent zs c.args.shape.now j _ c.extents-extents.ensures.value (omega arith) (c.from-n.ensures ∙ c.unsigned_abs.ensures.value) fits in
    some_extent c.args.shape.now c.loop-k.k j _ c.loop-k.rest (omega arith) n.0 n.1 c.loop-k.invariant.1

pub loop-k-preserved : goal.loop-k-preserved
loop-k-preserved c =
    let j = c.loop-k.k - 1 in
    let zs = c.extents-extents.result.now in
    let ns = c.args.shape.now in
    let fits : FitsSigned w32 (get_or zs j (pos 0)) = search rules in
    let n = read_extent zs ns j _ c.extents-extents.ensures.value (omega arith) (c.from-n.ensures ∙ c.unsigned_abs.ensures.value) fits in
    let long = ap length c.extents-extents.ensures.value ∙ length-map ns (λ x. pos x) in
    let step = vector_step ns c.loop-k.into (vector_at ns c.args.place) c.loop-k.k j c.from-n.result c.loop-k.rest (omega arith) n.0 (omega (arith, c.requires.fits, c.loop-k.auto.into)) n.1 c.loop-k.invariant.1 c.loop-k.invariant.2 in
    let small : c.from-n.result < 2 ^ 31 = omega (arith, n.1, c.extents-extents.ensures.shape.each j 0 n.0) in
    let positive = some_extent ns c.loop-k.k j _ c.loop-k.rest (omega arith) n.0 n.1 c.loop-k.invariant.1 in
    let low = mod_below c.loop-k.rest c.from-n.result positive in
    let same : to_z w32 (c.loop-k.rest % c.from-n.result) ≡ pos (c.loop-k.rest % c.from-n.result) = omega (arith, ints) in
    (omega arith, step.0, ap (λ x. vector_at (take j ns) (c.loop-k.rest / c.from-n.result) ++ drop j (set c.loop-k.into j x)) same ∙ step.1)

pub returns-clause-value : goal.returns-clause-value
returns-clause-value c = written c.args.shape.now c.loop-k.into (vector_at c.args.shape.now c.args.place) c.loop-k.k c.loop-k.rest (omega arith) c.loop-k.invariant.2

pub returns-clause-place : goal.returns-clause-place
returns-clause-place c =
    let all = written c.args.shape.now c.loop-k.into (vector_at c.args.shape.now c.args.place) c.loop-k.k c.loop-k.rest (omega arith) c.loop-k.invariant.2 in
    ap (part_at c.args.shape.now) all ∙ part_at-vector_at c.args.shape.now c.args.place c.requires.inside

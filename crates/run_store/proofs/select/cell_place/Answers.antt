use Rattle.std.proofs.Common.{rules, ap, ◌∙◌, pos, get_or, FitsSigned, w32}
use Rattle.std.proofs.lemmas.Int.{to_z-of_z}
use lib.IntN.{nat_abs}
use Rattle.run_store.proofs.Parts.{place_step, place_end}
use Rattle.run_store.proofs.select.cell_place.Goals as goal

pub loop-k-preserved : goal.loop-k-preserved
loop-k-preserved c =
    let k = c.loop-k.k in
    let n = get_or c.args.extents.now k (pos 0) in
    let i = get_or c.args.index.now k (pos 0) in
    let fits_n : FitsSigned w32 n = search rules in
    let fits_i : FitsSigned w32 i = search rules in
    let a = c.from.ensures ∙ c.unsigned_abs.ensures.value ∙ ap nat_abs (to_z-of_z w32 n fits_n) in
    let b = c.from-in-loop-k.ensures ∙ c.unsigned_abs-in-loop-k.ensures.value ∙ ap nat_abs (to_z-of_z w32 i fits_i) in (
      place_step c.args.extents.now c.args.index.now k c.loop-k.place c.from.result c.from-in-loop-k.result (search rules) (search rules) a b (search rules) (search rules) c.loop-k.invariant.0,
      c.loop-k.invariant.1,
      c.if-place-gt-MOST_ELEMENTS.false,
    )

pub returns : goal.returns
returns c = place_end c.args.extents.now c.args.index.now c.loop-k.k c.loop-k.place c.loop-k.invariant.1 c.loop-k-test.false c.loop-k.auto.k-end c.loop-k.invariant.0

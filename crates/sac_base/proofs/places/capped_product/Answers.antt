use Rattle.std.proofs.Common.{◌≡◌, ◌*◌, ◌+◌, min, ap, ◌∙◌, sym, map, take, get_or, pos, rules, FitsSigned, w32}
use Rattle.std.proofs.lemmas.Int.{to_z-of_z}
use lib.IntN.{nat_abs}
use Rattle.sac_base.specs.Arrays.{size, MOST}
use Rattle.sac_base.proofs.RowMajor.{size_read, capped_step}
use Rattle.sac_base.proofs.places.capped_product.Goals as goal

pub loop-n-preserved : goal.loop-n-preserved
loop-n-preserved c =
    let xs = c.args.extents.now in
    let i = c.loop-n.n-index in
    let z = get_or xs i (pos 0) in
    let fits : FitsSigned w32 z = search rules in
    let read : c.from.result ≡ nat_abs z = c.from.ensures ∙ c.unsigned_abs.ensures.value ∙ ap nat_abs (to_z-of_z w32 z fits) in
    let before = size (map nat_abs (take i xs)) in
    c.min-all.ensures ∙ ap (λ a. min (a * c.from.result) (MOST + 1)) c.loop-n.invariant ∙ ap (λ n. min (min (MOST + 1) before * n) (MOST + 1)) read
    ∙ capped_step (MOST + 1) before (nat_abs z) ∙ ap (min (MOST + 1)) (sym (size_read xs i c.loop-n-test.true))

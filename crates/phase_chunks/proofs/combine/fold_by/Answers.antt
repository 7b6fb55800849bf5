use Rattle.std.proofs.Common.{rules, ◌≡◌, ℤ, pos, get_or, take, sym, ap, ◌∙◌, w32, to_z, of_z, FitsSigned}
use Rattle.std.specs.Prelude.{fold}
use Rattle.std.specs.Result.{result_unwrap_or}
use Rattle.std.proofs.lemmas.Int.{to_z-of_z}
use Rattle.std.proofs.lemmas.List.{take_more}
use Rattle.std.proofs.lemmas.List.Sums.{fold_push}
use Rattle.sac_base.specs.Verdict.{fold_op}
use Rattle.phase_chunks.proofs.combine.fold_by.Goals as goal

pub loop-i-preserved : goal.loop-i-preserved
loop-i-preserved c =
    let i = c.loop-i.i in
    let ns = c.args.numbers.now in
    let first : ℤ = to_z w32 (of_z w32 c.args.first) in
    let a : ℤ = to_z w32 c.loop-i.value-bits in
    let b : ℤ = get_or ns i (pos 0) in
    let fits_b : FitsSigned w32 b = search rules in
    let fits : FitsSigned w32 c.unwrap_or-value.result = search rules in
    let is : c.unwrap_or-value.result ≡ fold_op c.args.op a b =
    c.unwrap_or-value.ensures ∙ (λ j. result_unwrap_or (c.apply2.ensures j) (pos 0)) ∙ (λ j. fold_op c.args.op a (to_z-of_z w32 b fits_b j)) in
    to_z-of_z w32 c.unwrap_or-value.result fits ∙ is ∙ ap (λ z. fold_op c.args.op z b) c.loop-i.invariant
    ∙ sym (fold_push (fold_op c.args.op) first (take i ns) b) ∙ ap (fold (fold_op c.args.op) first) (sym (take_more ns i (pos 0) c.loop-i-test.true))

use Rattle.std.proofs.Common.{rules, ◌≡◌, ℤ, pos, get_or, ◌∙◌, w32, to_z, of_z, FitsSigned}
use Rattle.std.proofs.lemmas.Int.{to_z-of_z}
use Rattle.std.specs.Result.{result_unwrap_or}
use Rattle.sac_base.specs.Verdict.{fold_op}
use Rattle.wl_core.proofs.Buffers.{combine_step}
use Rattle.phase_chunks.proofs.combine.combine_into.Goals as goal

pub loop-i-preserved : goal.loop-i-preserved
loop-i-preserved c =
    let i = c.loop-i.i in
    let a : ℤ = get_or c.loop-i.into i (pos 0) in
    let b : ℤ = get_or c.args.value.now i (pos 0) in
    let fits_a : FitsSigned w32 a = search rules in
    let fits_b : FitsSigned w32 b = search rules in
    let fits : FitsSigned w32 c.unwrap_or.result = search rules in
    let is : c.unwrap_or.result ≡ fold_op c.args.op a b =
    c.unwrap_or.ensures ∙ (λ j. result_unwrap_or (c.apply2.ensures j) (pos 0)) ∙ (λ j. fold_op c.args.op (to_z-of_z w32 a fits_a j) (to_z-of_z w32 b fits_b j)) in
    combine_step (fold_op c.args.op) c.args.into.now c.args.value.now c.loop-i.into i (to_z w32 (of_z w32 c.unwrap_or.result)) c.loop-i-test.true c.requires c.loop-i.invariant
    (to_z-of_z w32 c.unwrap_or.result fits ∙ is)

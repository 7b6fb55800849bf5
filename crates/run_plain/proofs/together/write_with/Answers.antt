use Rattle.std.proofs.Common.{rules, ◌≡◌, ◌<◌, ℕ, ℤ, length, w32, of_z, to_z, ap, ◌∙◌, sym}
use Rattle.std.proofs.lemmas.Int.{to_z-of_z}
use Rattle.sac_base.specs.Verdict.{fold_op}
use Rattle.lane_ops.specs.Lanes.{lane}
use Rattle.run_plain.proofs.Buffers.{with_number}
use Rattle.run_plain.proofs.together.write_with.Goals as goal

pub returns : goal.returns
returns g c =
    let same : length c.right.new.target ≡ length c.args.cells.now = search rules in
    with_number c.args.op c.args.left.now c.args.number c.right.new.target (c.requires.left ∙ sym same)
    (λ k lt. c.right.ensures k lt ∙ ap (λ (z : ℤ). fold_op c.args.op (lane c.args.left.now k) z) (to_z-of_z w32 c.args.number c.ranges.number)) c.requires.values

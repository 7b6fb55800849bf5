use Rattle.std.proofs.Common.{ℤ, w32, ap, ◌∙◌}
use Rattle.std.proofs.lemmas.Int.{to_z-of_z}
use Rattle.sac_base.specs.Verdict.{fold_op}
use Rattle.lane_ops.specs.Lanes.{lane}
use Rattle.phase_books.proofs.calls.LoopCallPhases.right.Goals as goal

pub returns : goal.returns
returns g c k lt =
    c.requires.runs.7 _ _ _ _ _ _ c.right.ensures k lt
    ∙ ap (λ (z : ℤ). fold_op c.args.op (lane c.args.first.now k) z) (to_z-of_z w32 c.args.number c.ranges.number)

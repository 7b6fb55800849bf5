use Rattle.norm_walk.proofs.Ends.{parted_made}
use Rattle.norm_walk.proofs.parting.parted_loop.Goals as goal

pub returns-clause-right : goal.returns-clause-right
returns-clause-right c =
    let plan = c.args.planned.plan in
    parted_made c.of_parted.result (record { frame = plan.frame; base = c.args.planned.base; cell = plan.cell; op = c.parted_op-op.result; parts = c.in_ok-parts.parts }) _ _ c.of_parted.ensures.right c.in_ok-parts.ensures.parts c.parted_op-op.ensures

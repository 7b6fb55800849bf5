use Rattle.std.proofs.Common.{sym}
use Rattle.run_kernels.proofs.Shown.{shown_as}
use Rattle.run_kernels.proofs.scope.scope_of.Goals as goal

pub loop-x-preserved : goal.loop-x-preserved
loop-x-preserved g c e shown =
    c.in_ok-add_value.ensures e (shown_as (g.H.ReadsBuffers.has c.args.heap.now) _ _ _ (sym c.get.ensures) (shown _)) (c.loop-x.invariant e shown)

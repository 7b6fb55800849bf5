use Rattle.std.proofs.Common.{sym, ◌∙◌, arith}
use Rattle.array_with_loops.proofs.RowSteps.{run_free, run_held}
use Rattle.loop_code.proofs.grids.offset_run.Goals as goal

pub returns-then-over-width-clause-same : goal.returns-then-over-width-clause-same
returns-then-over-width-clause-same c = λ j h.
    run_held c.args.offset c.args.step c.args.width j (omega (arith, c.if-step-width.false)) (omega (arith, h, c.of-then-over-width.ensures.count, c.min.ensures)) ∙ sym c.of-then-over-width.ensures.held

pub returns-else-over-width-clause-same : goal.returns-else-over-width-clause-same
returns-else-over-width-clause-same c = λ j h.
    run_free c.args.offset c.args.step c.args.width j (omega (arith, c.if-over-width.false)) (omega (arith, h, c.of-else-over-width.ensures.count, c.min-else-over-width.ensures)) ∙ sym c.of-else-over-width.ensures.held

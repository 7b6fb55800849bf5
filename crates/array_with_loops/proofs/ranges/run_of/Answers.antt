use Rattle.std.proofs.Common.{◌<◌, ◌≤◌, ◌-◌, ◌%◌, arith, sym, ◌∙◌, subst}
use Rattle.array_with_loops.proofs.RowSteps.{run_held, run_free}
use Rattle.array_with_loops.proofs.ranges.run_of.Goals as goal

pub returns-then-over-from-clause-same : goal.returns-then-over-from-clause-same
returns-then-over-from-clause-same c = λ j h.
    let over = subst (λ s. j < c.args.width - c.args.offset % s) c.from.ensures (omega (arith, h, c.of.ensures.count, c.min.ensures, c.from-then-over-from.ensures)) in
    run_held c.args.offset c.args.step c.args.width j c.requires.step over ∙ sym c.of.ensures.held

pub returns-else-over-from-clause-same : goal.returns-else-over-from-clause-same
returns-else-over-from-clause-same c = λ j h.
    let low = subst (λ s. c.args.width ≤ c.args.offset % s) c.from.ensures (omega (arith, c.if-over-from.false, c.from-2.ensures)) in
    let over = subst (λ s. j < c.args.step - c.args.offset % s) c.from.ensures (omega (arith, h, c.of-else-over-from.ensures.count, c.min-else-over-from.ensures, c.from-else-over-from.ensures)) in
    run_free c.args.offset c.args.step c.args.width j low over ∙ sym c.of-else-over-from.ensures.held

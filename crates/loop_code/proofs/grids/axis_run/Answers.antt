use Rattle.std.proofs.Common.{rules, ◌≡◌, sym, ◌∙◌, arith}
use Rattle.std.specs.Prelude.{unsigned_abs, ◌-ℤ◌}
use Rattle.std.proofs.lemmas.Int.{ints}
use Rattle.loop_code.proofs.GridSteps.{above_none, below_none, inside_is}
use Rattle.loop_code.proofs.grids.axis_run.Goals as goal

pub returns-then-x-axis-clause-same : goal.returns-then-x-axis-clause-same
returns-then-x-axis-clause-same c = λ j h.
    above_none c.args.axis.now c.args.x j c.args.axis.now.wide (omega (arith, ints, c.if-x-axis.true)) ∙ sym c.of.ensures.held

pub returns-then-x-axis-2-clause-same : goal.returns-then-x-axis-2-clause-same
returns-then-x-axis-2-clause-same c = λ j h.
    let apart : c.abs_diff.result ≡ unsigned_abs (c.args.axis.now.lo -ℤ c.args.x) = search rules in
    below_none c.args.axis.now c.args.x j c.args.axis.now.wide (omega (arith, ints, h, c.of-then-x-axis-2.ensures.count, c.min.ensures, apart, c.if-x-axis-2.true)) ∙ sym c.of-then-x-axis-2.ensures.held

pub returns-clause-same : goal.returns-clause-same
returns-clause-same c = λ j h.
    let apart : c.abs_diff-2.result ≡ unsigned_abs (c.args.axis.now.hi -ℤ c.args.x) = search rules in
    let offset : c.abs_diff-3.result ≡ unsigned_abs (c.args.x -ℤ c.args.axis.now.lo) = search rules in
    let step : c.unsigned_abs-step.result ≡ unsigned_abs c.args.axis.now.step = search rules in
    let width : c.unsigned_abs-width.result ≡ unsigned_abs c.args.axis.now.width = search rules in
    inside_is c.args.axis.now c.args.x j c.abs_diff-3.result c.unsigned_abs-step.result c.unsigned_abs-width.result c.args.axis.now.wide offset step width
    (omega (arith, ints, c.if-x-axis-2.false))
    (omega (arith, ints, h, c.offset_run.ensures.most, c.min-most.ensures, apart, c.if-x-axis.false))
    ∙ c.offset_run.ensures.same j h

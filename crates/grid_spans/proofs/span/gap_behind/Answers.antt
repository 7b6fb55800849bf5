use Rattle.std.proofs.Common.{rules, ◌≡◌, ◌-ℤ◌, unsigned_abs}
use Rattle.grid_spans.proofs.Ends.{gap_is}
use Rattle.grid_spans.proofs.span.gap_behind.Goals as goal

pub returns-else-phase-width : goal.returns-else-phase-width
returns-else-phase-width c =
    let g = c.args.axis.now in
    let far : c.abs_diff.result ≡ unsigned_abs (c.args.last -ℤ g.lo) = search rules in
    let step : c.unsigned_abs-step.result ≡ unsigned_abs g.step = search rules in
    let width : c.unsigned_abs-width.result ≡ unsigned_abs g.width = search rules in
    gap_is g c.args.last c.abs_diff.result c.unsigned_abs-step.result c.unsigned_abs-width.result far step width c.if-phase-width.false

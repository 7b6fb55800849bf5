use Rattle.std.proofs.Common.{rules, ◌≤ℤ◌, ◌<ℤ◌}
use Rattle.grid_spans.specs.Spans.{IsLeast}
use Rattle.grid_spans.proofs.Ends.{least_is, none_is}
use Rattle.grid_spans.proofs.span.span_of.Goals as goal

pub returns-then-axis-clause-some : goal.returns-then-axis-clause-some
returns-then-axis-clause-some c =
    let g = c.args.axis.now in
    let some : g.lo <ℤ g.hi = search rules in
    let least : IsLeast g g.lo = least_is g some g.steps g.wide in
    search rules

pub returns-else-axis-clause-none : goal.returns-else-axis-clause-none
returns-else-axis-clause-none c =
    let g = c.args.axis.now in
    let over : g.hi ≤ℤ g.lo = search rules in
    none_is g over g.wide

use Rattle.std.proofs.Common.{rules, ◌↔◌, IsTrue, ◌+ℤ◌, ◌≤ℤ◌, ◌<ℤ◌}
use Rattle.grid_spans.proofs.moved.WithinFacts.{axis_is}
use Rattle.grid_spans.proofs.moved.inside.is_axis_within.Goals as goal

pub returns-then-is_from : goal.returns-then-is_from
returns-then-is_from c =
    let s = c.in-Some.span in
    let f = c.args.range.now in
    let low : f.lo ≤ℤ (s.least +ℤ c.args.number) = search rules in
    let below : IsTrue c.is_below.result ↔ ((s.greatest +ℤ c.args.number) <ℤ f.hi) = search rules in
    axis_is c.is_below.result c.args.axis.now f c.args.number s.least s.greatest c.in-Some.ensures.some
    (λ t. (low, below.0 t)) (λ l h. below.1 h)

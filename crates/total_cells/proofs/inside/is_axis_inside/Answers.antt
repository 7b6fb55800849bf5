use Rattle.std.proofs.Common.{rules, ◌↔◌, IsTrue, pos, ◌+ℤ◌, ◌≤ℤ◌, ◌<ℤ◌}
use Rattle.total_cells.proofs.InsideFacts.{axis_is}
use Rattle.total_cells.proofs.inside.is_axis_inside.Goals as goal

pub returns-then-is_from_zero : goal.returns-then-is_from_zero
returns-then-is_from_zero c =
    let s = c.in-Some.span in
    let low : pos 0 ≤ℤ (s.least +ℤ c.args.number) = search rules in
    let below : IsTrue c.is_below.result ↔ ((s.greatest +ℤ c.args.number) <ℤ c.args.extent) = search rules in
    axis_is c.is_below.result c.args.axis.now c.args.extent c.args.number s.least s.greatest c.in-Some.ensures.some
    (λ t. (low, below.0 t)) (λ l h. below.1 h)

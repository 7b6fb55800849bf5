use Rattle.std.proofs.Common.{◌∙◌, ◌++◌, ap, sym, arith, length, append-nil, min, ◌≤◌}
use Rattle.array_with_loops.proofs.BoundSteps.{joined_ends}
use Rattle.array_with_loops.proofs.ranges.Range.joined.Goals as goal

pub returns : goal.returns
returns c =
    let small : min (length c.args.self.now) (length c.args.other.now) ≤ c.loop-k.k = omega (arith, c.min-k-end.ensures, c.len.ensures, c.len-2.ensures, ap length c.self.view_is, ap length c.other.view_is, c.loop-k-test.false, c.self.inside.axes.ok.0, c.other.inside.axes.ok.0) in
    let none = joined_ends c.args.self.now c.args.other.now c.loop-k.k small in
    sym (append-nil c.loop-k.axes.items) ∙ ap (λ xs. c.loop-k.axes.items ++ xs) (sym none) ∙ c.loop-k.invariant.whole

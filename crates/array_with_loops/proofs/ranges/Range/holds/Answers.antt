use Rattle.std.proofs.Common.{length, sym, ap, ◌∙◌, arith}
use Rattle.array_with_loops.proofs.RangeSteps.{holds_length}
use Rattle.array_with_loops.proofs.ranges.Range.holds.Goals as goal

pub returns-then-index-len : goal.returns-then-index-len
returns-then-index-len c = sym (holds_length c.args.self.now c.args.index.now (λ e. c.if-index-len.true (e ∙ ap length (sym c.self.view_is) ∙ omega (arith, c.len.ensures))))

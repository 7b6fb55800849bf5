use Rattle.std.proofs.Common.{◌∙◌, ◌≤◌, length, subst, sym}
use Rattle.array_with_loops.proofs.JoinSteps.{frame_step, box_next}
use Rattle.array_with_loops.proofs.frames.joined_range.Goals as goal

pub loop-range-preserved : goal.loop-range-preserved
loop-range-preserved c =
    let k = c.loop-range.range-index in
    let rank = subst (λ r. length r ≤ 8) (sym c.range-item.is) (c.requires k c.range-item.result c.loop-range-test.true) in
    record {
      frame = frame_step c.args.ranges.now k c.loop-range.joined _ c.range-item.result c.loop-range-test.true c.range-item.is c.in_ok-joined.ensures ∙ c.loop-range.invariant.frame;
      some = box_next c.loop-range.joined _ c.range-item.result c.loop-range.invariant.some rank c.in_ok-joined.ensures;
    }

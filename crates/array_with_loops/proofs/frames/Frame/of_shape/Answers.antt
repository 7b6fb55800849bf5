use Rattle.std.proofs.Common.{◌≡◌, ap, ◌∙◌, length, replicate, pos, arith, ◌≤◌, subst}
use Rattle.std.specs.Option.{SomeIff}
use Rattle.sac_base.specs.Arrays.{size, MOST}
use Rattle.array_with_loops.proofs.FrameSteps.{zero_frame, zero_box}
use Rattle.array_with_loops.proofs.frames.Frame.of_shape.Goals as goal

pub invariant_of-result : goal.invariant_of-result
invariant_of-result c =
    let ns = c.args.shape.now in
    let k : c.loop-k._k ≡ length ns = omega (arith, c.rank-k-end.ensures.value, c.loop-k-test.false, c.loop-k.auto._k-end) in
    let low = c.loop-k.invariant ∙ ap (λ n. replicate n (pos 0)) k in
    let e = c.elements.ensures in
    let u = c.unwrap-count.ensures in
    zero_frame ns c.loop-k.low.items c.copy.result _ c.extents.ensures.shape c.requires low c.copy.ensures (subst (λ o. SomeIff o (size ns ≤ MOST) (size ns)) u e).1

pub returns : goal.returns
returns c =
    let ns = c.args.shape.now in
    let k : c.loop-k._k ≡ length ns = omega (arith, c.rank-k-end.ensures.value, c.loop-k-test.false, c.loop-k.auto._k-end) in
    zero_box ns c.loop-k.low.items c.copy.result (c.loop-k.invariant ∙ ap (λ n. replicate n (pos 0)) k) c.copy.ensures

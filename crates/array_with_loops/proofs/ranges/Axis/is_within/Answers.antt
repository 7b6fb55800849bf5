use Rattle.std.proofs.Common.{◌≡◌, ◌+◌, ◌%◌, ◌<◌, true, false, arith, w32, pos, ap, sym, ◌∙◌, ltb, subst, ◌-ℤ◌}
use Rattle.std.proofs.lemmas.Int.{ints, to_z-of_z}
use Rattle.std.specs.Prelude.{int_lt}
use lib.IntN.{nat_abs}
use Rattle.sac_base.specs.WithLoops.{Axis, distance}
use Rattle.array_with_loops.specs.Ranges.{axis_within, is_empty_axis}
use Rattle.array_with_loops.proofs.RangeSteps.{bound_kept, within_at, below_at}
use Rattle.array_with_loops.proofs.ranges.Axis.is_within.Goals as goal

pub returns-then-self-lt0 : goal.returns-then-self-lt0
returns-then-self-lt0 c =
    let i = c.self.inside in
    let low = bound_kept i.lower c.self.invariant.lower in
    let z = subst (λ z. int_lt z (pos 0) ≡ true) low c.if-self-lt0.true in
    let some = subst (λ (a : Axis). is_empty_axis a ≡ false) (sym c.self.view_is) c.requires.some in
    sym (below_at i.lower i.upper i.step i.width (nat_abs c.args.extent) z some (omega (arith, ints, c.self.invariant.step.least)) (omega (arith, ints, c.self.invariant.width.least)))
    ∙ ap (axis_within (nat_abs c.args.extent)) c.self.view_is

pub returns : goal.returns
returns c =
    let i = c.self.inside in
    let low = bound_kept i.lower c.self.invariant.lower in
    let m : distance (i.upper -ℤ i.lower) ≡ c.extent.result = ap (λ (a : Axis). distance (a.upper -ℤ a.lower)) c.self.view_is ∙ sym c.extent.ensures.value in
    let z = subst (λ z. int_lt z (pos 0) ≡ false) low c.if-self-lt0.false in
    let l = c.last_offset-last.ensures in
    let n : c.from-3.result ≡ nat_abs c.args.extent = c.from-3.ensures ∙ c.unsigned_abs-2.ensures.value ∙ ap nat_abs (to_z-of_z w32 c.args.extent c.ranges.extent) in
    ap (λ x. ltb (c.unsigned_abs.result + c.last_offset-last.result) x) n
    ∙ sym (within_at i.lower i.upper i.step i.width (nat_abs c.args.extent) c.extent.result c.unsigned_abs.result c.last_offset-last.result z (c.unsigned_abs.ensures.value ∙ ap nat_abs low) m l.inside
    (subst (λ s. c.last_offset-last.result % s < i.width) c.from.ensures (subst (λ w. c.last_offset-last.result % c.from.result < w) c.from-2.ensures l.held))
    (λ k h g. l.greatest k h (subst (λ w. k % c.from.result < w) (sym c.from-2.ensures) (subst (λ s. k % s < i.width) (sym c.from.ensures) g))))
    ∙ ap (axis_within (nat_abs c.args.extent)) c.self.view_is

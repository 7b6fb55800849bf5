use Rattle.std.proofs.Common.{◌≡◌, ◌≤◌, ◌<◌, ◌+◌, ℕ, ℤ, List, [], ◌∷◌, ◌++◌, All, ap, sym, ◌∙◌, subst, arith, rules, length, get_or, take, map, pos, replicate, IfOk, FitsSigned, w64, to_z, of_z}
use Rattle.std.proofs.lemmas.Int.{ints, to_z-of_z}
use Rattle.std.proofs.lemmas.List.{take_all, map_more, replicate_more, length-map, length-replicate}
use Rattle.std.proofs.lemmas.List.Elements.{All-replicate}
use Rattle.std.proofs.lemmas.Result.{IfOk-weaker}
use Rattle.sac_base.specs.declared.grid.Grid1.{Grid1}
use Rattle.sac_base.specs.WithLoops.{Range, axes}
use Rattle.array_with_loops.specs.Ranges.{IsBound, IsStep}
use Rattle.array_with_loops.proofs.GridSteps.{range_is}
use Rattle.array_with_loops.proofs.frames.box_of.Goals as goal

-- numbers of all axes, with those of one more
pushed : (f : Grid1 → ℤ) (g : List Grid1) (k : ℕ) (a : Grid1) (before after : List ℤ) → k < length g → a ≡ get_or g k a → FitsSigned w64 (f a) → before ≡ map f (take k g) → after ≡ before ++ to_z w64 (of_z w64 (f a)) ∷ [] → after ≡ map f (take (k + 1) g)
pushed f g k a before after inside at fits e h =
    h ∙ ap (λ z. before ++ z ∷ []) (to_z-of_z w64 (f a) fits) ∙ ap (λ zs. zs ++ f a ∷ []) e ∙ ap (λ (b : Grid1). map f (take k g) ++ f b ∷ []) at ∙ sym (map_more f g k a inside)

-- numbers of all axes that were gone through
gathered : (f : Grid1 → ℤ) (g items : List Grid1) (k : ℕ) (read numbers : List ℤ) → length items ≤ k → items ≡ g → read ≡ numbers → numbers ≡ map f (take k items) → read ≡ map f g
gathered f g items k read numbers over same r e = r ∙ e ∙ ap (map f) (take_all k items over ∙ same)

ones_of : (g items : List Grid1) (k : ℕ) (read numbers : List ℤ) → length items ≤ k → k ≤ length items → items ≡ g → read ≡ numbers → numbers ≡ replicate k (pos 1) → read ≡ replicate (length g) (pos 1)
ones_of g items k read numbers over within same r e =
    let end : k ≡ length items = omega arith in
    r ∙ e ∙ ap (λ n. replicate n (pos 1)) (end ∙ ap length same)

lengths : (f h : Grid1 → ℤ) (g : List Grid1) (xs ys : List ℤ) → xs ≡ map f g → ys ≡ map h g → length xs ≡ length ys
lengths f h g xs ys p q = ap length p ∙ length-map g f ∙ sym (length-map g h) ∙ sym (ap length q)

lengths_ones : (f : Grid1 → ℤ) (g : List Grid1) (xs ys : List ℤ) → xs ≡ replicate (length g) (pos 1) → ys ≡ map f g → length xs ≡ length ys
lengths_ones f g xs ys p q = ap length p ∙ length-replicate (length g) (pos 1) ∙ sym (length-map g f) ∙ sym (ap length q)

one_step : IsStep (pos 1)
one_step = record { least = omega (arith, ints); most = omega (arith, ints) }

steps : (n : ℕ) (xs : List ℤ) → xs ≡ replicate n (pos 1) → All IsStep xs
steps n xs e = subst (All IsStep) (sym e) (All-replicate IsStep n (pos 1) one_step)

few : (f : Grid1 → ℤ) (g : List Grid1) (xs : List ℤ) → xs ≡ map f g → length g ≤ 8 → (r : Range) → length r ≡ length xs → length r ≤ 8
few f g xs e h r same = subst (λ n. n ≤ 8) (sym (same ∙ ap length e ∙ length-map g f)) h

pub loop-axis-preserved : goal.loop-axis-preserved
loop-axis-preserved c =
    let items = c.axes-axis-items.result.now in
    let k = c.loop-axis.axis-index in
    let a = c.axis-item.result in
    let low : FitsSigned w64 a.lo = search rules in
    let high : FitsSigned w64 a.hi = search rules in
    record {
      lower = pushed (λ (b : Grid1). b.lo) items k a c.loop-axis.lower.items _ c.loop-axis-test.true c.axis-item.is low c.loop-axis.invariant.lower c.in_ok-push.ensures.items;
      upper = pushed (λ (b : Grid1). b.hi) items k a c.loop-axis.upper.items _ c.loop-axis-test.true c.axis-item.is high c.loop-axis.invariant.upper c.in_ok-push-2.ensures.items;
      ones = c.in_ok-push-3.ensures.items ∙ ap (λ zs. zs ++ pos 1 ∷ []) c.loop-axis.invariant.ones ∙ replicate_more k (pos 1);
    }

pub new-requires-clause-lower : goal.new-requires-clause-lower
new-requires-clause-lower c =
    let p = gathered (λ (b : Grid1). b.lo) c.args.grid.now c.axes-axis-items.result.now c.loop-axis.axis-index c.deref.result.now _ c.loop-axis-test.false c.axes-axis-items.ensures.axes c.deref.ensures.value c.loop-axis.invariant.lower in
    subst (All IsBound) (sym p) c.requires.lower

pub new-requires-clause-upper : goal.new-requires-clause-upper
new-requires-clause-upper c =
    let q = gathered (λ (b : Grid1). b.hi) c.args.grid.now c.axes-axis-items.result.now c.loop-axis.axis-index c.deref-2.result.now _ c.loop-axis-test.false c.axes-axis-items.ensures.axes c.deref-2.ensures.value c.loop-axis.invariant.upper in
    subst (All IsBound) (sym q) c.requires.upper

pub new-requires-clause-step : goal.new-requires-clause-step
new-requires-clause-step c = steps c.loop-axis.axis-index c.deref-3.result.now (c.deref-3.ensures.value ∙ c.loop-axis.invariant.ones)

pub new-requires-clause-width : goal.new-requires-clause-width
new-requires-clause-width c = steps c.loop-axis.axis-index c.deref-4.result.now (c.deref-4.ensures.value ∙ c.loop-axis.invariant.ones)

pub new-requires-clause-uppers : goal.new-requires-clause-uppers
new-requires-clause-uppers c =
    let items = c.axes-axis-items.result.now in
    let k = c.loop-axis.axis-index in
    let over = c.loop-axis-test.false in
    let p = gathered (λ (b : Grid1). b.lo) items items k c.deref.result.now _ over (λ i. items) c.deref.ensures.value c.loop-axis.invariant.lower in
    let q = gathered (λ (b : Grid1). b.hi) items items k c.deref-2.result.now _ over (λ i. items) c.deref-2.ensures.value c.loop-axis.invariant.upper in
    lengths (λ (b : Grid1). b.hi) (λ (b : Grid1). b.lo) items c.deref-2.result.now c.deref.result.now q p

pub new-requires-clause-steps : goal.new-requires-clause-steps
new-requires-clause-steps c =
    let items = c.axes-axis-items.result.now in
    let k = c.loop-axis.axis-index in
    let over = c.loop-axis-test.false in
    let p = gathered (λ (b : Grid1). b.lo) items items k c.deref.result.now _ over (λ i. items) c.deref.ensures.value c.loop-axis.invariant.lower in
    lengths_ones (λ (b : Grid1). b.lo) items c.deref-3.result.now c.deref.result.now
    (ones_of items items k c.deref-3.result.now _ over c.loop-axis.auto.axis-index-end (λ i. items) c.deref-3.ensures.value c.loop-axis.invariant.ones) p

pub new-requires-clause-widths : goal.new-requires-clause-widths
new-requires-clause-widths c =
    let items = c.axes-axis-items.result.now in
    let k = c.loop-axis.axis-index in
    let over = c.loop-axis-test.false in
    let p = gathered (λ (b : Grid1). b.lo) items items k c.deref.result.now _ over (λ i. items) c.deref.ensures.value c.loop-axis.invariant.lower in
    lengths_ones (λ (b : Grid1). b.lo) items c.deref-4.result.now c.deref.result.now
    (ones_of items items k c.deref-4.result.now _ over c.loop-axis.auto.axis-index-end (λ i. items) c.deref-4.ensures.value c.loop-axis.invariant.ones) p

pub returns-clause-value : goal.returns-clause-value
returns-clause-value c =
    let g = c.args.grid.now in
    let items = c.axes-axis-items.result.now in
    let k = c.loop-axis.axis-index in
    let over = c.loop-axis-test.false in
    let within = c.loop-axis.auto.axis-index-end in
    let same = c.axes-axis-items.ensures.axes in
    let p = gathered (λ (b : Grid1). b.lo) g items k c.deref.result.now _ over same c.deref.ensures.value c.loop-axis.invariant.lower in
    let q = gathered (λ (b : Grid1). b.hi) g items k c.deref-2.result.now _ over same c.deref-2.ensures.value c.loop-axis.invariant.upper in
    let r = ones_of g items k c.deref-3.result.now _ over within same c.deref-3.ensures.value c.loop-axis.invariant.ones in
    let s = ones_of g items k c.deref-4.result.now _ over within same c.deref-4.ensures.value c.loop-axis.invariant.ones in
    subst (λ b. IfOk c.new.result (λ x. x ≡ b)) ((λ i. axes (p i) (q i) (r i) (s i)) ∙ range_is g) c.new.ensures.value

pub returns-clause-rank : goal.returns-clause-rank
returns-clause-rank c =
    let g = c.args.grid.now in
    let p = gathered (λ (b : Grid1). b.lo) g c.axes-axis-items.result.now c.loop-axis.axis-index c.deref.result.now _ c.loop-axis-test.false c.axes-axis-items.ensures.axes c.deref.ensures.value c.loop-axis.invariant.lower in
    IfOk-weaker c.new.result (λ (r : Range). length r ≡ length c.deref.result.now) (λ (r : Range). length r ≤ 8)
    (few (λ (b : Grid1). b.lo) g c.deref.result.now p c.axes-axis-items.ensures.few)
    c.new.ensures.length

use Rattle.std.proofs.Common.{◌∙◌, ◌≡◌, ◌≤◌, ◌<◌, ap, sym, subst, arith, length, map, pos, get_or, FitsSigned, w32, w64, to_z, of_z, false, true≢false, ◌++◌, ◌∷◌, [], ◌^◌}
use Rattle.std.proofs.lemmas.Int.{to_z-of_z, to_z_pos}
use Rattle.sac_base.specs.Shapes.{AreNatural}
use Rattle.array_with_loops.specs.Frames.{spans}
use Rattle.std.proofs.lemmas.List.{take_all, map_more}
use Rattle.sac_base.specs.Arrays.{size, MOST}
use Rattle.sac_base.specs.WithLoops.{Axis, span_of, box, box_size}
use Rattle.array_with_loops.specs.Ranges.{is_empty_axis}
use Rattle.array_with_loops.proofs.RangeSteps.{some_at, bound_kept}
use Rattle.array_with_loops.proofs.JoinSteps.{too_many, lower_fits, spans_of, map_pos_same, pos_map, frame_of_box, box_size_of, fits_most, passes_most, natural_extents}
use Rattle.array_with_loops.proofs.frames.Frame.of_box.Goals as goal

pub returns-then-extent-gt-MOST_ELEMENTS-clause-none : goal.returns-then-extent-gt-MOST_ELEMENTS-clause-none
returns-then-extent-gt-MOST_ELEMENTS-clause-none c =
    let r = c.args.range.now in
    let k = c.loop-axis.axis-index in
    let inside : k < length r = subst (λ xs. k < length xs) c.axes-axis-items.ensures.value c.loop-axis-test.true in
    let at : c.axis-item.result ≡ get_or r k c.axis-item.result = c.axis-item.is ∙ ap (λ xs. get_or xs k c.axis-item.result) c.axes-axis-items.ensures.value in
    too_many r k c.extent-extent.result c.axis-item.result c.requires.nonempty inside at c.extent-extent.ensures.value c.if-extent-gt-MOST_ELEMENTS.true

pub overflow_cast-lower : goal.overflow_cast-lower
overflow_cast-lower c =
    let r = c.args.range.now in
    let k = c.loop-axis.axis-index in
    let a = c.axis-item.result in
    let inside : k < length r = subst (λ xs. k < length xs) c.axes-axis-items.ensures.value c.loop-axis-test.true in
    let at : a ≡ get_or r k a = c.axis-item.is ∙ ap (λ xs. get_or xs k a) c.axes-axis-items.ensures.value in
    let some = subst (λ (b : Axis). is_empty_axis b ≡ false) (sym at) (some_at r k a c.requires.nonempty inside) in
    let kept = ap (λ z. to_z w64 (of_z w64 z)) c.lower.ensures.value ∙ bound_kept a.lower c.lower.ensures.axis.lower in
    subst (FitsSigned w32) (sym kept) (lower_fits a c.lower.ensures.axis some)

pub loop-axis-preserved : goal.loop-axis-preserved
loop-axis-preserved c =
    let r = c.args.range.now in
    let xs = c.axes-axis-items.result.now in
    let k = c.loop-axis.axis-index in
    let a = c.axis-item.result in
    let inside : k < length r = subst (λ xs. k < length xs) c.axes-axis-items.ensures.value c.loop-axis-test.true in
    let at : a ≡ get_or r k a = c.axis-item.is ∙ ap (λ xs. get_or xs k a) c.axes-axis-items.ensures.value in
    let some = subst (λ (b : Axis). is_empty_axis b ≡ false) (sym at) (some_at r k a c.requires.nonempty inside) in
    let fits = lower_fits a c.lower.ensures.axis some in
    let kept = ap (λ z. to_z w64 (of_z w64 z)) c.lower.ensures.value ∙ bound_kept a.lower c.lower.ensures.axis.lower in
    let low = ap (λ z. to_z w32 (of_z w32 z)) kept ∙ to_z-of_z w32 a.lower fits ∙ ap (λ (b : Axis). b.lower) c.axis-item.is in
    let small : c.extent-extent.result < 2 ^ 31 = omega (arith, c.if-extent-gt-MOST_ELEMENTS.false) in
    let extent = to_z_pos w32 c.extent-extent.result small ∙ ap pos c.extent-extent.ensures.value ∙ ap (λ (b : Axis). pos (span_of b).extent) c.axis-item.is in
    record {
      low = c.in_ok-push.ensures.items ∙ ap (λ z. c.loop-axis.low.items ++ z ∷ []) low ∙ ap (λ zs. zs ++ (get_or xs k a).lower ∷ []) c.loop-axis.invariant.low
          ∙ sym (map_more (λ (b : Axis). b.lower) xs k a c.loop-axis-test.true);
      extents = c.in_ok-push-2.ensures.items ∙ ap (λ z. c.loop-axis.extents.items ++ z ∷ []) extent ∙ ap (λ zs. zs ++ pos (span_of (get_or xs k a)).extent ∷ []) c.loop-axis.invariant.extents
          ∙ sym (map_more (λ (b : Axis). pos (span_of b).extent) xs k a c.loop-axis-test.true);
    }

pub returns-in_default-clause-none : goal.returns-in_default-clause-none
returns-in_default-clause-none c =
    let all = take_all c.loop-axis.axis-index c.axes-axis-items.result.now c.loop-axis-test.false ∙ c.axes-axis-items.ensures.value in
    let items = c.deref.ensures.value ∙ c.loop-axis.invariant.extents ∙ ap (map (λ (a : Axis). pos (span_of a).extent)) all in
    absurd (true≢false (sym (c.in_default.ensures.fits.1 (subst AreNatural (sym items) (natural_extents c.args.range.now c.requires.rank)))))

pub invariant_of-result : goal.invariant_of-result
invariant_of-result c =
    let r = c.args.range.now in
    let all = take_all c.loop-axis.axis-index c.axes-axis-items.result.now c.loop-axis-test.false ∙ c.axes-axis-items.ensures.value in
    let low = c.loop-axis.invariant.low ∙ ap (map (λ (a : Axis). a.lower)) all in
    let items = c.deref.ensures.value ∙ c.loop-axis.invariant.extents ∙ ap (map (λ (a : Axis). pos (span_of a).extent)) all in
    let ext = map_pos_same c.in-Some.extents (map (λ (a : Axis). (span_of a).extent) r) (c.in-Some.ensures.value ∙ items ∙ pos_map r) in
    frame_of_box r c.loop-axis.low.items c.in-Some.extents c.in-Some-elements.count c.axes-axis-items.ensures.each c.requires.nonempty low ext c.in-Some-elements.ensures.0 c.in-Some-elements.ensures.1

pub returns-in-None-clause-none : goal.returns-in-None-clause-none
returns-in-None-clause-none c =
    let r = c.args.range.now in
    let all = take_all c.loop-axis.axis-index c.axes-axis-items.result.now c.loop-axis-test.false ∙ c.axes-axis-items.ensures.value in
    let items = c.deref.ensures.value ∙ c.loop-axis.invariant.extents ∙ ap (map (λ (a : Axis). pos (span_of a).extent)) all in
    let ext = map_pos_same c.in-Some.extents (map (λ (a : Axis). (span_of a).extent) r) (c.in-Some.ensures.value ∙ items ∙ pos_map r) in
    let same : size c.in-Some.extents ≡ box_size (map span_of r) = ap size ext ∙ sym (box_size_of r) in
    passes_most (box_size (map span_of r)) (λ h. c.in-None.ensures (subst (λ n. n ≤ MOST) (sym same) h))

pub returns-in-Some-elements-clause-some : goal.returns-in-Some-elements-clause-some
returns-in-Some-elements-clause-some c =
    let r = c.args.range.now in
    let all = take_all c.loop-axis.axis-index c.axes-axis-items.result.now c.loop-axis-test.false ∙ c.axes-axis-items.ensures.value in
    let low = c.loop-axis.invariant.low ∙ ap (map (λ (a : Axis). a.lower)) all in
    let items = c.deref.ensures.value ∙ c.loop-axis.invariant.extents ∙ ap (map (λ (a : Axis). pos (span_of a).extent)) all in
    let ext = map_pos_same c.in-Some.extents (map (λ (a : Axis). (span_of a).extent) r) (c.in-Some.ensures.value ∙ items ∙ pos_map r) in
    ap (λ ls. box (spans ls c.in-Some.extents)) low ∙ ap (λ es. box (spans (map (λ (a : Axis). a.lower) r) es)) ext ∙ ap box (spans_of r)

pub returns-in-Some-elements-clause-none : goal.returns-in-Some-elements-clause-none
returns-in-Some-elements-clause-none c =
    let r = c.args.range.now in
    let all = take_all c.loop-axis.axis-index c.axes-axis-items.result.now c.loop-axis-test.false ∙ c.axes-axis-items.ensures.value in
    let items = c.deref.ensures.value ∙ c.loop-axis.invariant.extents ∙ ap (map (λ (a : Axis). pos (span_of a).extent)) all in
    let ext = map_pos_same c.in-Some.extents (map (λ (a : Axis). (span_of a).extent) r) (c.in-Some.ensures.value ∙ items ∙ pos_map r) in
    let same : size c.in-Some.extents ≡ box_size (map span_of r) = ap size ext ∙ sym (box_size_of r) in
    fits_most (box_size (map span_of r)) (subst (λ n. n ≤ MOST) same c.in-Some-elements.ensures.0)

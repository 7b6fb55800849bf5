use Rattle.std.proofs.Common.{◌≡◌, ◌<◌, ◌^◌, ◌++◌, ◌∷◌, [], length, ap, sym, ◌∙◌, subst, arith, rules, map, pos, w32, w64, get_or, All, FitsSigned}
use Rattle.std.specs.Prelude.{unsigned_abs, ◌-ℤ◌, IfSome}
use Rattle.std.proofs.lemmas.Int.{to_z_pos}
use Rattle.std.proofs.lemmas.List.{take_all, map_more}
use Rattle.std.proofs.lemmas.List.Elements.{All-get_or, All-more}
use Rattle.sac_base.specs.declared.grid.Grid1.{Grid1}
use Rattle.sac_base.specs.Shapes.{AreNatural}
use Rattle.sac_base.specs.WithLoops.{distance}
use Rattle.array_with_loops.proofs.JoinSteps.{map_pos_same}
use Rattle.array_with_loops.specs.GridFrames.{grid_extents}
use Rattle.loop_code.specs.Offsets.{HasBounds}
use Rattle.loop_code.proofs.OffsetSteps.{IsSmall, are_small, extent_is, natural, numbers, numbers_are}
use Rattle.loop_code.proofs.members.extents_of.Goals as goal

pub overflow_cast-abs_diff : goal.overflow_cast-abs_diff
overflow_cast-abs_diff c =
    let g = c.args.grid.now in
    let k = c.loop-axis.axis-index in
    let a = c.axis-item.result in
    let inside : c.loop-axis.axis-index < length c.args.grid.now = subst (λ xs. k < length xs) c.axes-axis-items.ensures.axes c.loop-axis-test.true in
    let at = c.axis-item.is ∙ ap (λ xs. get_or xs k a) c.axes-axis-items.ensures.axes in
    let small = subst IsSmall (sym at) (All-get_or IsSmall g k a inside (are_small g c.requires.some c.requires.most)) in
    let apart : c.abs_diff.result ≡ unsigned_abs (c.axis-item.result.hi -ℤ c.axis-item.result.lo) = search rules in
    let below : c.abs_diff.result < 2 ^ 31 = omega (arith, small.most, extent_is a c.abs_diff.result small apart) in
    record { sfits = below }

pub loop-axis-preserved : goal.loop-axis-preserved
loop-axis-preserved c =
    let g = c.args.grid.now in
    let xs = c.axes-axis-items.result.now in
    let k = c.loop-axis.axis-index in
    let a = c.axis-item.result in
    let inside : c.loop-axis.axis-index < length c.args.grid.now = subst (λ xs. k < length xs) c.axes-axis-items.ensures.axes c.loop-axis-test.true in
    let at = c.axis-item.is ∙ ap (λ xs. get_or xs k a) c.axes-axis-items.ensures.axes in
    let small = subst IsSmall (sym at) (All-get_or IsSmall g k a inside (are_small g c.requires.some c.requires.most)) in
    let apart : c.abs_diff.result ≡ unsigned_abs (c.axis-item.result.hi -ℤ c.axis-item.result.lo) = search rules in
    let extent = extent_is a c.abs_diff.result small apart in
    let below : c.abs_diff.result < 2 ^ 31 = omega (arith, small.most, extent) in
    let kept = to_z_pos w32 c.abs_diff.result below ∙ ap pos extent ∙ ap (λ (b : Grid1). pos (distance (b.hi -ℤ b.lo))) c.axis-item.is in
    let low : FitsSigned w64 c.axis-item.result.lo = search rules in
    let high : FitsSigned w64 c.axis-item.result.hi = search rules in
    record {
      numbers = c.in_ok-push.ensures.items ∙ ap (λ z. c.loop-axis.extents.items ++ z ∷ []) kept
          ∙ ap (λ zs. zs ++ pos (distance ((get_or xs k a).hi -ℤ (get_or xs k a).lo)) ∷ []) c.loop-axis.invariant.numbers
          ∙ sym (map_more (λ (b : Grid1). pos (distance (b.hi -ℤ b.lo))) xs k a c.loop-axis-test.true);
      bounds = All-more HasBounds xs k a c.loop-axis-test.true c.loop-axis.invariant.bounds (subst HasBounds c.axis-item.is (record { low = low; high = high }));
    }

pub unwrap-requires : goal.unwrap-requires
unwrap-requires c =
    let all = take_all c.loop-axis.axis-index c.axes-axis-items.result.now c.loop-axis-test.false ∙ c.axes-axis-items.ensures.axes in
    let items = c.deref.ensures.value ∙ c.loop-axis.invariant.numbers ∙ ap numbers all in
    c.from_extents.ensures.fits.1 (subst AreNatural (sym items) (natural c.args.grid.now c.axes-axis-items.ensures.few))

pub returns-clause-value : goal.returns-clause-value
returns-clause-value c =
    let g = c.args.grid.now in
    let all = take_all c.loop-axis.axis-index c.axes-axis-items.result.now c.loop-axis-test.false ∙ c.axes-axis-items.ensures.axes in
    let items = c.deref.ensures.value ∙ c.loop-axis.invariant.numbers ∙ ap numbers all in
    let value = subst (λ o. IfSome o (λ s. map pos s ≡ c.deref.result.now)) c.unwrap.ensures c.from_extents.ensures.value in
    map_pos_same c.unwrap.result (grid_extents g) (value ∙ items ∙ numbers_are g)

pub returns-clause-bounds : goal.returns-clause-bounds
returns-clause-bounds c = subst (All HasBounds) (take_all c.loop-axis.axis-index c.axes-axis-items.result.now c.loop-axis-test.false ∙ c.axes-axis-items.ensures.axes) c.loop-axis.invariant.bounds

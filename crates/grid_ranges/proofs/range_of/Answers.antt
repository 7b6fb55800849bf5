use Rattle.std.proofs.Common.{refl, w32, ap, ◌∙◌, sym, subst, map, All}
use Rattle.std.proofs.lemmas.Int.{to_z-of_z}
use Rattle.std.proofs.lemmas.List.{take_all}
use Rattle.std.proofs.lemmas.List.Elements.{All-push}
use Rattle.sac_base.specs.declared.grid.Grid1.{Grid1}
use Rattle.sac_base.specs.WithLoops.{axes}
use Rattle.array_with_loops.specs.Ranges.{IsBound, IsStep}
use Rattle.grid_ranges.specs.Members.{HasMembersOf}
use Rattle.array_with_loops.proofs.RangeSteps.{bound_kept}
use Rattle.grid_ranges.proofs.Same.{members_same, number_pushed}
use Rattle.grid_ranges.proofs.range_of.Goals as goal

pub loop-axis-preserved : goal.loop-axis-preserved
loop-axis-preserved c =
    let words = c.if-not-has_words.ensures refl in
    let items = c.axes-axis-items.result.now in
    let k = c.loop-axis.axis-index in
    let g = c.axis-item.result in
    let inside = c.loop-axis-test.true in
    let here = c.axis-item.is in
    let lo = bound_kept g.lo words.lo in
    let hi = bound_kept g.hi words.hi in
    let step = to_z-of_z w32 c.step_of.result (record { sfits = c.step_of.type_inv }) ∙ c.step_of.ensures in
    let width = to_z-of_z w32 c.width_of.result (record { sfits = c.width_of.type_inv }) ∙ c.width_of.ensures in
    record {
      lower = number_pushed (λ (a : Grid1). a.lo) items k g c.loop-axis.lower.items c.push.new.self.items _ inside here c.in_ok-push.ensures.items lo c.loop-axis.invariant.lower;
      upper = number_pushed (λ (a : Grid1). a.hi) items k g c.loop-axis.upper.items c.push-in-loop-axis.new.self.items _ inside here c.in_ok-push-2.ensures.items hi c.loop-axis.invariant.upper;
      step = number_pushed (λ (a : Grid1). a.step) items k g c.loop-axis.step.items c.push-in-loop-axis-2.new.self.items _ inside here c.in_ok-push-3.ensures.items step c.loop-axis.invariant.step;
      width = number_pushed (λ (a : Grid1). a.width) items k g c.loop-axis.width.items c.push-in-loop-axis-3.new.self.items _ inside here c.in_ok-push-4.ensures.items width c.loop-axis.invariant.width;
      lowers = subst (All IsBound) (sym c.in_ok-push.ensures.items) (All-push IsBound c.loop-axis.lower.items _ c.loop-axis.invariant.lowers (subst IsBound (sym lo) words.lo));
      uppers = subst (All IsBound) (sym c.in_ok-push-2.ensures.items) (All-push IsBound c.loop-axis.upper.items _ c.loop-axis.invariant.uppers (subst IsBound (sym hi) words.hi));
      steps = subst (All IsStep) (sym c.in_ok-push-3.ensures.items) (All-push IsStep c.loop-axis.step.items _ c.loop-axis.invariant.steps (subst IsStep (sym step) words.step));
      widths = subst (All IsStep) (sym c.in_ok-push-4.ensures.items) (All-push IsStep c.loop-axis.width.items _ c.loop-axis.invariant.widths (subst IsStep (sym width) words.width));
    }

pub returns : goal.returns
returns c =
    let g = c.args.grid.now in
    let items = c.axes-axis-items.result.now in
    let all = take_all c.loop-axis.axis-index items c.loop-axis-test.false ∙ c.axes-axis-items.ensures.axes in
    let p = c.deref.ensures.value ∙ c.loop-axis.invariant.lower ∙ ap (map (λ (a : Grid1). a.lo)) all in
    let q = c.deref-2.ensures.value ∙ c.loop-axis.invariant.upper ∙ ap (map (λ (a : Grid1). a.hi)) all in
    let r = c.deref-3.ensures.value ∙ c.loop-axis.invariant.step ∙ ap (map (λ (a : Grid1). a.step)) all in
    let s = c.deref-4.ensures.value ∙ c.loop-axis.invariant.width ∙ ap (map (λ (a : Grid1). a.width)) all in
    subst (HasMembersOf g) (sym (c.in_ok-range.ensures.value ∙ (λ i. axes (p i) (q i) (r i) (s i)))) (members_same g)

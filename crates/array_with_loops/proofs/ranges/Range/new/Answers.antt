use Rattle.std.proofs.Common.{◌≡◌, arith, w64, pos, ap, sym, ◌∙◌, subst, get_or, drop, ◌+◌, ◌++◌, All, to_z, of_z, length}
use Rattle.std.proofs.lemmas.List.Elements.{All-push}
use Rattle.std.proofs.lemmas.List.{length_push}
use Rattle.sac_base.specs.WithLoops.{Axis, axes}
use Rattle.array_with_loops.specs.Ranges.{IsAxis, IsBound, IsStep}
use Rattle.array_with_loops.proofs.RangeSteps.{bound_kept, step_kept, axes_step}
use Rattle.array_with_loops.proofs.ranges.Range.new.Goals as goal

pub invariant_of-push : goal.invariant_of-push
invariant_of-push c =
    let k = c.loop-k.k in
    let l = c.requires.lower k (pos 0) c.loop-k-test.true in
    let u = c.requires.upper k (pos 0) (omega (arith, c.requires.uppers)) in
    let s = c.requires.step k (pos 0) (omega (arith, c.requires.steps)) in
    let w = c.requires.width k (pos 0) (omega (arith, c.requires.widths)) in
    record {
      lower = subst IsBound (sym (bound_kept _ l)) l;
      upper = subst IsBound (sym (bound_kept _ u)) u;
      step = subst IsStep (sym (step_kept _ _ s c.unsigned_abs.ensures.value)) s;
      width = subst IsStep (sym (step_kept _ _ w c.unsigned_abs-in-loop-k.ensures.value)) w;
    }

pub loop-k-preserved : goal.loop-k-preserved
loop-k-preserved c =
    let k = c.loop-k.k in
    let l = c.requires.lower k (pos 0) c.loop-k-test.true in
    let u = c.requires.upper k (pos 0) (omega (arith, c.requires.uppers)) in
    let s = c.requires.step k (pos 0) (omega (arith, c.requires.steps)) in
    let w = c.requires.width k (pos 0) (omega (arith, c.requires.widths)) in
    let a : Axis = record { lower = to_z w64 (of_z w64 (get_or c.args.lower.now k (pos 0))); upper = to_z w64 (of_z w64 (get_or c.args.upper.now k (pos 0))); step = pos c.unsigned_abs.result; width = pos c.unsigned_abs-in-loop-k.result } in
    let is : a ≡ record { lower = get_or c.args.lower.now k (pos 0); upper = get_or c.args.upper.now k (pos 0); step = get_or c.args.step.now k (pos 0); width = get_or c.args.width.now k (pos 0) } =
    λ i. record { lower = bound_kept _ l i; upper = bound_kept _ u i; step = step_kept _ _ s c.unsigned_abs.ensures.value i; width = step_kept _ _ w c.unsigned_abs-in-loop-k.ensures.value i } in
    record {
      whole = ap (λ xs. xs ++ axes (drop (k + 1) c.args.lower.now) (drop (k + 1) c.args.upper.now) (drop (k + 1) c.args.step.now) (drop (k + 1) c.args.width.now)) c.in_ok-push.ensures.items
          ∙ axes_step c.args.lower.now c.args.upper.now c.args.step.now c.args.width.now k c.loop-k.axes.items _ a c.loop-k-test.true c.requires.uppers c.requires.steps c.requires.widths is c.loop-k.invariant.whole;
      each = subst (All IsAxis) (sym c.in_ok-push.ensures.items) (All-push IsAxis c.loop-k.axes.items a c.loop-k.invariant.each (record { lower = subst IsBound (sym (bound_kept _ l)) l; upper = subst IsBound (sym (bound_kept _ u)) u; step = subst IsStep (sym (step_kept _ _ s c.unsigned_abs.ensures.value)) s; width = subst IsStep (sym (step_kept _ _ w c.unsigned_abs-in-loop-k.ensures.value)) w }));
      count = ap length c.in_ok-push.ensures.items ∙ length_push c.loop-k.axes.items a ∙ ap (λ n. n + 1) c.loop-k.invariant.count;
    }

use Rattle.std.proofs.Common.{◌+◌, refl, sym, ap, subst, ◌∙◌, length, arith, Vec, Global}
use Rattle.core_ir.specs.declared.tree.Core.{Core}
use Rattle.core_ir.specs.Outcome.{SameOutcome, SameOutside}
use Rattle.core_ir.specs.View.{core_term, fun_term}
use Rattle.core_ir.specs.WellFormed.{IsWellFormed}
use Rattle.core_forms.specs.inlined_bodies.Functions.{ComeTo}
use Rattle.inline_calls.specs.declared.sizes.Size.{Size}
use Rattle.inline_calls.specs.Measures.{AreSizes}
use Rattle.unreached_functions.proofs.Outside.{outside_itself, outside_through}
use Rattle.inline_calls.proofs.Passes.{alike, unlike, function_turn, function_passed, outside_inlined}
use Rattle.inline_calls.proofs.Instances.{mapped_at, read_at}
use Rattle.inline_calls.proofs.functions.inline_functions.Goals as goal
use Rattle.inline_calls.proofs.functions.inline_functions.Goals.{then-index-inlines+in_ok-inline_function, else-index-inlines}

pub loop-place-init : goal.loop-place-init
loop-place-init c = record {
  outcome = λ f args caps. refl;
  outside = outside_itself (core_term c.args.core.now);
  well = λ f. f;
  come = λ f d. d;
  sized = c.requires;
  count = refl;
}

pub loop-place-preserved : goal.loop-place-preserved
loop-place-preserved c =
    let v = c.loop-place.invariant in
    let items = c.loop-place.core.functions.items in
    let k = c.loop-place.place in
    let x = c.index.result.now in
    let start = core_term c.args.core.now in
    let old = core_term c.loop-place.core in
    let found = mapped_at fun_term items k x (read_at items k x (omega (arith, c.loop-place-test.true, c.len-place-end.ensures, v.count)) c.index.ensures) in
    elim c.if-index-inlines.branch [
      | then-index-inlines+in_ok-inline_function w ↦
          let turn = function_turn start old (core_term w.inline_function.new.core) c.args.inlines k (fun_term x) (record { outcome = v.outcome; well = v.well; come = v.come }) w.in_ok-inline_function.ensures.inlined found (alike x.inline c.args.inlines w.if-index-inlines.true) in
          record {
            outcome = λ f. subst (λ (m : Core). SameOutcome start (core_term m)) (sym w.core-is) (turn.outcome f);
            outside = subst (λ (m : Core). SameOutside start (core_term m)) (sym w.core-is)
                (outside_through start old (core_term w.inline_function.new.core) v.outside (outside_inlined old (core_term w.inline_function.new.core) k w.in_ok-inline_function.ensures.inlined));
            well = λ f. subst (λ (m : Core). IsWellFormed (core_term m)) (sym w.core-is) (turn.well f);
            come = λ f d. subst (λ (m : Core). ComeTo (core_term m) c.args.inlines (k + 1)) (sym w.core-is) (turn.come f d);
            sized = subst (λ (m : Core). AreSizes (core_term m) c.if-index-inlines.sizes.items) (sym w.core-is) (subst (λ (ss : Vec Size Global). AreSizes (core_term w.inline_function.new.core) ss.items) (sym w.sizes-is) w.in_ok-inline_function.ensures.sized);
            count = ap (λ (m : Core). length m.functions.items) w.core-is ∙ w.in_ok-inline_function.ensures.count ∙ v.count;
          }
      | else-index-inlines w ↦
          let turn = function_passed start old c.args.inlines k (fun_term x) (record { outcome = v.outcome; well = v.well; come = v.come }) found (unlike x.inline c.args.inlines w.if-index-inlines.false) in
          record {
            outcome = λ f. subst (λ (m : Core). SameOutcome start (core_term m)) (sym w.core-is) (turn.outcome f);
            outside = subst (λ (m : Core). SameOutside start (core_term m)) (sym w.core-is) v.outside;
            well = λ f. subst (λ (m : Core). IsWellFormed (core_term m)) (sym w.core-is) (turn.well f);
            come = λ f d. subst (λ (m : Core). ComeTo (core_term m) c.args.inlines (k + 1)) (sym w.core-is) (turn.come f d);
            sized = subst (λ (m : Core). AreSizes (core_term m) c.if-index-inlines.sizes.items) (sym w.core-is) (subst (λ (ss : Vec Size Global). AreSizes old ss.items) (sym w.sizes-is) v.sized);
            count = ap (λ (m : Core). length m.functions.items) w.core-is ∙ v.count;
          }
    ]

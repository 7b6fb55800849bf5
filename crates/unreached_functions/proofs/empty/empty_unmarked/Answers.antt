use Rattle.std.proofs.Common.{false, refl, sym, ap, subst, ◌∙◌, length}
use Rattle.std.specs.Prelude.{slice_get, unwrap_or}
use Rattle.core_ir.specs.declared.tree.Core.{Core}
use Rattle.core_ir.specs.Outcome.{SameOutcome, SameOutside}
use Rattle.core_ir.specs.View.{core_term}
use Rattle.core_ir.specs.WellFormed.{IsWellFormed}
use Rattle.unreached_functions.specs.Closed.{IsClosed}
use Rattle.unreached_functions.proofs.Places.{unmarked}
use Rattle.unreached_functions.proofs.Emptied.{lost_more}
use Rattle.unreached_functions.proofs.Outside.{outside_itself, outside_through, outside_emptied}
use Rattle.unreached_functions.proofs.empty.empty_unmarked.Goals as goal
use Rattle.unreached_functions.proofs.empty.empty_unmarked.Goals.{then-not-is_marked+in_ok-empty_function, else-not-is_marked}

pub loop-place-init : goal.loop-place-init
loop-place-init c = record {
  outcome = λ h args caps. refl;
  closed = λ h. h;
  well = λ h. h;
  outside = outside_itself (core_term c.args.core.now);
  count = refl;
}

pub loop-place-preserved : goal.loop-place-preserved
loop-place-preserved c =
    let v = c.loop-place.invariant in
    let start = core_term c.args.core.now in
    let old = core_term c.loop-place.core in
    let groups = c.args.marks.now.groups.items in
    let functions = c.args.marks.now.functions.items in
    elim c.if-not-is_marked.branch [
      | then-not-is_marked+in_ok-empty_function w ↦
          let none = unmarked functions c.loop-place.place c.is_marked.result (c.is_marked.ensures ∙ ap (λ ms. unwrap_or (slice_get ms c.loop-place.place) false) c.deref.ensures.value) w.if-not-is_marked.true in
          let turn = lost_more start old (core_term w.empty_function.new.core) groups functions c.loop-place.place (record { outcome = v.outcome; closed = v.closed; well = v.well }) w.in_ok-empty_function.ensures.emptied none in
          record {
            outcome = λ h. subst (λ (m : Core). SameOutcome start (core_term m)) (sym w.core-is) (turn.outcome h);
            closed = λ h. subst (λ (m : Core). IsClosed (core_term m) groups functions) (sym w.core-is) (turn.closed h);
            well = λ h. subst (λ (m : Core). IsWellFormed (core_term m)) (sym w.core-is) (turn.well h);
            outside = subst (λ (m : Core). SameOutside start (core_term m)) (sym w.core-is)
                (outside_through start old (core_term w.empty_function.new.core) v.outside (outside_emptied old (core_term w.empty_function.new.core) c.loop-place.place w.in_ok-empty_function.ensures.emptied));
            count = ap (λ (m : Core). length m.functions.items) w.core-is ∙ w.in_ok-empty_function.ensures.count ∙ v.count;
          }
      | else-not-is_marked w ↦
          record {
            outcome = λ h. subst (λ (m : Core). SameOutcome start (core_term m)) (sym w.core-is) (v.outcome h);
            closed = λ h. subst (λ (m : Core). IsClosed (core_term m) groups functions) (sym w.core-is) (v.closed h);
            well = λ h. subst (λ (m : Core). IsWellFormed (core_term m)) (sym w.core-is) (v.well h);
            outside = subst (λ (m : Core). SameOutside start (core_term m)) (sym w.core-is) v.outside;
            count = ap (λ (m : Core). length m.functions.items) w.core-is ∙ v.count;
          }
    ]

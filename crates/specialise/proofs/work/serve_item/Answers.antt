use Rattle.std.proofs.Common.{◌≡◌, ◌∙◌, refl, sym, ap, subst, arith, Some}
use Rattle.std.proofs.lemmas.Option.{slice_get-get_or}
use Rattle.core_ir.specs.View.{core_term}
use Rattle.plain_facts.specs.Called.{shapes_of}
use Rattle.specialise.specs.Plans.{entries, members}
use Rattle.specialise.proofs.Progress.{grows_itself, grows_through}
use Rattle.specialise.proofs.Turns.{CallsTo, call_done, all_calls}
use Rattle.specialise.proofs.work.serve_item.Goals as goal

pub loop-call-init : goal.loop-call-init
loop-call-init c = record {
  planned = λ well plan. plan;
  grown = grows_itself (entries c.args.plan.now.items.items) (members c.args.plan.now.groups.items);
  served = λ well plan i d lt. absurd (omega (arith, lt));
  main = refl;
}

pub loop-call-preserved : goal.loop-call-preserved
loop-call-preserved c =
    let core = core_term c.args.core.now in
    let calls = c.deref-call-items.result.now in
    let k = c.loop-call.call-index in
    let es = entries c.loop-call.plan.items.items in
    let gs = members c.loop-call.plan.groups.items in
    let v = c.loop-call.invariant in
    let step = c.in_ok-serve_call.ensures in
    record {
      planned = λ well plan. step.planned well (v.planned well plan);
      grown = grows_through _ _ es gs _ _ v.grown step.grown;
      served = λ well plan.
          call_done core well es gs (v.planned well plan) _ _ step.grown calls k c.call-item.result (slice_get-get_or calls k c.call-item.result (omega arith) ∙ ap Some (sym c.call-item.is))
          (step.served well (v.planned well plan)) (v.served well plan);
      main = step.main ∙ v.main;
    }

pub returns-clause-served : goal.returns-clause-served
returns-clause-served c well plan =
    let core = core_term c.args.core.now in
    let es = entries c.loop-call.plan.items.items in
    let gs = members c.loop-call.plan.groups.items in
    let k = c.loop-call.call-index in
    all_calls core (shapes_of c.args.called.now) c.requires (entries c.args.plan.now.items.items) es gs c.args.number c.in_ok-calls.calls.items k (omega arith) c.in_ok-calls.ensures
    (subst (λ cs. CallsTo core es gs cs k) c.deref-call-items.ensures.value (c.loop-call.invariant.served well plan))

use Rattle.std.proofs.Common.{◌≡◌, ◌∙◌, ap, sym, subst, refl, arith, get_or, []}
use Rattle.std.specs.Prelude.{slice_get, unwrap_or}
use Rattle.std.proofs.lemmas.Option.{slice_get-get_or}
use Rattle.core_ir.specs.View.{core_term}
use Rattle.specialise.proofs.groups.Lists.{stands_there}
use Rattle.specialise.specs.Plans.{entries, members}
use Rattle.specialise.proofs.Progress.{grows_itself, grows_through, grows_place, planned_place, enough_place, place_done, all_places, no_room}
use Rattle.specialise.proofs.serve.serve_call.Goals as goal

pub loop-place-init : goal.loop-place-init
loop-place-init c = record {
  planned = λ well plan. plan;
  grown = grows_itself (entries c.args.plan.now.items.items) (members c.args.plan.now.groups.items);
  served = λ well plan i place lt. absurd (omega (arith, lt));
  main = refl;
}

pub loop-place-preserved : goal.loop-place-preserved
loop-place-preserved c =
    let core = core_term c.args.core.now in
    let own = c.members_of-own.result.now in
    let call = c.args.call.now in
    let k = c.loop-place.place-index in
    let es = entries c.loop-place.plan.items.items in
    let gs = members c.loop-place.plan.groups.items in
    let v = c.loop-place.invariant in
    let same = c.members_of-own.ensures ∙ ap (λ gs. unwrap_or (slice_get (members gs) c.args.call.now.group) []) c.deref.ensures.value in
    let step = grows_place own call.group call.shapes.items (get_or own k 0) es gs _ _ c.in_ok-serve_place.ensures.served in
    record {
      planned = λ well plan.
          planned_place core well es gs (v.planned well plan) call.group own same call.shapes.items (get_or own k 0) (stands_there own k (omega arith)) _ _ c.in_ok-serve_place.ensures.served;
      grown = grows_through _ _ es gs _ _ v.grown step;
      served = λ well plan.
          place_done core well es gs (v.planned well plan) _ _ step call.group own same call.shapes.items k (get_or own k 0) (slice_get-get_or own k 0 (omega arith))
          (enough_place core well es gs (v.planned well plan) call.group own same call.shapes.items (get_or own k 0) (stands_there own k (omega arith)) _ _ c.in_ok-serve_place.ensures.served)
          (v.served well plan);
      main = c.in_ok-serve_place.ensures.main ∙ v.main;
    }

pub returns-clause-served : goal.returns-clause-served
returns-clause-served c well plan =
    let core = core_term c.args.core.now in
    let own = c.members_of-own.result.now in
    let call = c.args.call.now in
    let same = c.members_of-own.ensures ∙ ap (λ gs. unwrap_or (slice_get (members gs) c.args.call.now.group) []) c.deref.ensures.value in
    all_places core (entries c.loop-place.plan.items.items) (members c.loop-place.plan.groups.items) (call.group, call.shapes.items) own same c.loop-place.place-index (omega arith)
    (c.loop-place.invariant.served well plan)

use Rattle.std.proofs.Common.{◌≡◌, ◌∙◌, ap, sym, subst, refl, map, Some, ℕ, List, [], ◌∷◌}
use Rattle.std.specs.Prelude.{slice_get}
use Rattle.core_ir.specs.declared.tree.CoreFun.{CoreFun}
use Rattle.core_ir.specs.Terms.{FunTerm}
use Rattle.core_ir.specs.View.{core_term, fun_term}
use Rattle.specialise.specs.declared.order.Key.{Key}
use Rattle.specialise.specs.declared.plan.Item.{Item}
use Rattle.specialise.specs.Plans.{entries, members, function_at}
use Rattle.specialise.specs.Orders.{numbers, AreKeys, IsInverse}
use Rattle.specialise.proofs.building.build.Goals as goal

through : (fs : List CoreFun) → map (λ (f : FunTerm). Some f) (map fun_term fs) ≡ map (λ (f : CoreFun). Some (fun_term f)) fs
through [] = refl
through (f ∷ fs) = λ i. Some (fun_term f) ∷ through fs i

pub returns : goal.returns
returns c =
    let keys = c.in_ok-order.order.items in
    let places = c.in_ok-places.places.items in
    let core = core_term c.args.core.now in
    record {
      keys = keys;
      places = places;
      are = subst (λ (xs : List Item). AreKeys (entries xs) keys) c.deref.ensures.value c.in_ok-order.ensures.keys;
      sorted = c.in_ok-order.ensures.sorted;
      inverse = subst (λ (ks : List Key). IsInverse (numbers ks) places) c.deref-2.ensures.value c.in_ok-places.ensures;
      functions = through c.in_ok-functions.functions.items ∙ c.in_ok-functions.ensures ∙ (λ i. map (function_at core (entries (c.deref-3.ensures.value i))) (numbers (c.deref-4.ensures.value i)));
      groups = c.in_ok-groups.ensures ∙ (λ i. map (map (slice_get (c.deref-6.ensures.value i))) (members (c.deref-5.ensures.value i)));
      main_is = c.in_ok-main.ensures ∙ (λ i. slice_get (c.deref-7.ensures.value i) c.args.plan.now.main);
    }

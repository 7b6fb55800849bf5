-- The core that a plan tells has the outcome of the first one.
use Rattle.std.proofs.Common.{◌≡◌, ℕ, ◌^◌, ◌<◌, Bool, true, false, ◌&&◌, List, [], ◌∷◌, ◌++◌, map, length, Option, Some, None, refl, sym, ap, subst, ◌∙◌, arith, ◌⊎◌, inl, inr}
use Rattle.std.specs.Prelude.{slice_get}
use Rattle.std.proofs.lemmas.Bool.{false≢true}
use Rattle.std.proofs.lemmas.List.{length-map}
use Rattle.sac_base.specs.declared.faults.Caps.{Caps}
use Rattle.sac_base.specs.declared.form.Form.{Form}
use Rattle.sac_base.specs.declared.types.ArrayType.{ArrayType}
use Rattle.sac_base.specs.Arrays.{ArrayValue, form_of}
use Rattle.sac_base.specs.Types.{has, all_have, all_have_forms, all_below}
use Rattle.core_ir.specs.Outcome.{param_types, outcome}
use Rattle.core_ir.specs.Terms.{FunTerm, CoreTerm}
use Rattle.core_ir.specs.WellFormed.{IsWellFormed}
use Rattle.specialise.specs.groups.Specialised.{IsSpecialised}
use Rattle.specialise.proofs.groups.Formed.{formed}
use Rattle.specialise.proofs.groups.Lists.{some_same}
use Rattle.specialise.proofs.groups.Outcomes.{outcomes}
use Rattle.specialise.specs.Plans.{Entry, owns, retyped, IsEntry, IsPlan, Keeps}
use Rattle.specialise.specs.Tables.{types_in, types_at, exact}
use Rattle.specialise.specs.Orders.{numbers, IsBuilt}
use Rattle.specialise.specs.Mains.{MainPlanned, FewAdded, AreExact, MainTakes}
use Rattle.specialise.proofs.Forms.{exact_below, exact_itself, exact_known, below_bases}
use Rattle.specialise.proofs.Planning.{first_plan, with_entry, last_at}
use Rattle.specialise.specs.Progress.{AllPlanned}
use Rattle.specialise.specs.Served.{CallsServed}
use Rattle.specialise.proofs.Built.{specialised, main_types, few_added}
use Rattle.specialise.proofs.Served.{calls_served}

have_forms : (types : List ArrayType) (args : List ArrayValue) → all_have types args ≡ all_have_forms types (map form_of args)
have_forms [] [] = refl
have_forms [] (a ∷ args) = refl
have_forms (ty ∷ types) [] = refl
have_forms (ty ∷ types) (a ∷ args) = ap (λ b. has ty a && b) (have_forms types args)

-- main's entry
pub record MainIs (core : CoreTerm) (forms : List Form) (es : List Entry) (main : ℕ) : Type 0 where
  pub entry : Entry
  pub function : FunTerm
  pub found : slice_get es main ≡ Some entry
  pub source : (entry).source ≡ core.main
  pub there : slice_get core.functions core.main ≡ Some function
  pub takes : all_have_forms (param_types function) forms ≡ all_have_forms (entry).types forms
  pub exact_types : all_have_forms (param_types function) forms ≡ true → AreExact (entry).types forms

-- the plan with main's instance
pub main_planned : (core : CoreTerm) → IsWellFormed core → (forms : List Form) (es more : List Entry) (gs : List (List ℕ)) (old main : ℕ) → es ≡ owns 0 core.functions → gs ≡ core.groups → old ≡ core.main
    → MainPlanned core.main forms es old more main → IsPlan core more gs × MainIs core forms more main
main_planned core well forms es more gs old main e g o h = elim h [
  | inl a ↦
      let below : all_below (exact forms) (param_types f) ≡ true = ap (all_below (exact forms)) (sym types) ∙ a.fits in (
        subst (λ xs. IsPlan core xs gs) (sym a.entries) (with_entry core es gs new plan (record { function = f; there = well.main.1.0; bases = below_bases (exact forms) (param_types f) below })),
        record {
          entry = new;
          function = f;
          found = (λ i. slice_get (a.entries i) (a.is i)) ∙ last_at es new;
          source = refl;
          there = well.main.1.0;
          takes = sym (exact_below (param_types f) forms) ∙ below ∙ sym (sym (exact_below (exact forms) forms) ∙ exact_itself forms);
          exact_types = λ q. record { contain = sym (exact_below (exact forms) forms) ∙ exact_itself forms; alone = exact_itself forms };
        },
      )
  | inr s ↦ (
    subst (λ xs. IsPlan core xs gs) (sym s.entries) plan,
    record {
      entry = own;
      function = f;
      found = (λ i. slice_get (s.entries i) ((s.is ∙ o) i)) ∙ plan.own core.main f well.main.1.0;
      source = refl;
      there = well.main.1.0;
      takes = refl;
      exact_types = λ q. record {
        contain = q;
        alone = elim s.reason [
          | inl n ↦ absurd (false≢true (sym n ∙ ap (all_below (exact forms)) types ∙ exact_below (param_types f) forms ∙ q))
          | inr y ↦ ap (λ ts. all_below ts (exact forms)) (sym types) ∙ y
        ];
      };
    },
  )
]
  where
    f : FunTerm
    f = well.main.0

    plan : IsPlan core es gs
    plan = first_plan core es gs e g

    new : Entry
    new = record { source = core.main; types = exact forms }

    own : Entry
    own = record { source = core.main; types = param_types well.main.0 }

    types : types_at es core.main ≡ param_types well.main.0
    types = ap types_in ((first_plan core es gs e g).own core.main well.main.0 well.main.1.0)

pub main_kept : (core : CoreTerm) (forms : List Form) (es more : List Entry) (main : ℕ) → Keeps es more → MainIs core forms es main → MainIs core forms more main
main_kept core forms es more main k m = record {
  entry = m.entry;
  function = m.function;
  found = k main m.entry m.found;
  source = m.source;
  there = m.there;
  takes = m.takes;
  exact_types = m.exact_types;
}

module _ (core new : CoreTerm) (well : IsWellFormed core) (forms : List Form) (es : List Entry) (gs : List (List ℕ)) (main : ℕ) (plan : IsPlan core es gs) (m : MainIs core forms es main) (few : length es < 2 ^ 32) (built : IsBuilt core es gs main new) where
  long : length new.functions ≡ length es
  long =
      sym (length-map new.functions (λ (g : FunTerm). Some g)) ∙ ap length built.functions ∙ length-map (numbers built.keys) (Rattle.specialise.specs.Plans.function_at core es)
      ∙ length-map built.keys (λ (k : Rattle.specialise.specs.declared.order.Key.Key). k.number) ∙ built.are.count

  pub is_specialised : IsSpecialised core new
  is_specialised = specialised core new es gs main plan built m.entry m.found m.source (subst (λ n. n < 2 ^ 32) (sym long) few)

  pub well_formed : IsWellFormed new
  well_formed = formed core new well is_specialised

  types_of_main : (g : FunTerm) → slice_get new.functions new.main ≡ Some g → param_types g ≡ (m.entry).types
  types_of_main g e = main_types core new es gs main plan built m.entry m.found g e

  pub same_outcome : (args : List ArrayValue) (caps : Caps) → map form_of args ≡ forms → outcome core args caps ≡ outcome new args caps
  same_outcome args caps h =
      outcomes core new well is_specialised args caps
      (λ f g ef eg.
      have_forms (param_types f) args ∙ ap (all_have_forms (param_types f)) h
      ∙ ap (λ (x : FunTerm). all_have_forms (param_types x) forms) (some_same f m.function (sym ef ∙ m.there))
      ∙ m.takes ∙ ap (λ ts. all_have_forms ts forms) (sym (types_of_main g eg))
      ∙ sym (have_forms (param_types g) args ∙ ap (all_have_forms (param_types g)) h))

  pub added : FewAdded core new
  added = few_added core new es gs main plan built

  pub main_takes : MainTakes core new forms
  main_takes f g ef eg q =
      subst (λ ts. AreExact ts forms) (sym (types_of_main g eg))
      (m.exact_types (ap (λ (x : FunTerm). all_have_forms (param_types x) forms) (some_same m.function f (sym m.there ∙ ef)) ∙ q))

  pub served : AllPlanned core es gs → CallsServed new
  served done = calls_served core new well es gs main plan built is_specialised done

-- In the core that a plan tells calls are served, where they are served in the plan.
use Rattle.std.proofs.Common.{◌≡◌, ℕ, ◌≤◌, Bool, true, false, ◌&&◌, ◌||◌, List, [], ◌∷◌, ◌++◌, map, All, Option, Some, None, refl, sym, ap, subst, ◌∙◌, ◌⊎◌, inl, inr}
use Rattle.std.specs.Prelude.{slice_get, unwrap_or}
use Rattle.std.proofs.lemmas.Bool.{false≢true}
use Rattle.std.proofs.lemmas.List.Elements.{All-weaker}
use Rattle.sac_base.specs.declared.base.Base.{Base}
use Rattle.sac_base.specs.declared.base.Base.TheVariants.{Int, Bool as Truth}
use Rattle.sac_base.specs.declared.form.Form.{Form}
use Rattle.sac_base.specs.declared.types.ArrayType.{ArrayType}
use Rattle.sac_base.specs.Arrays.{same_base}
use Rattle.sac_base.specs.Types.{has_form, has_shape, all_have_forms, all_below}
use Rattle.shape_types.proofs.Inclusion.{and_left, and_right, and_both}
use Rattle.core_ir.specs.Outcome.{param_types, param_vars, group_at}
use Rattle.core_ir.specs.Terms.{FunTerm, CoreTerm}
use Rattle.core_ir.specs.WellFormed.{IsWellFormed}
use Rattle.core_facts.specs.calls.Nests.{StandsIn}
use Rattle.core_facts.specs.constants.Called.{called, params_facts}
use Rattle.specialise.specs.groups.Specialised.{IsSpecialised}
use Rattle.specialise.proofs.groups.Known.{all_below_on}
use Rattle.specialise.proofs.groups.Lists.{some_same, stands_map, all_by_place}
use Rattle.specialise.proofs.groups.Choice.{group_is, group_there, member, member_cases}
use Rattle.specialise.proofs.groups.Results.{same_results}
use Rattle.known_calls.specs.Known.{GroupAndShapes, known_in, typed_facts}
use Rattle.specialise.specs.Plans.{Entry, IsPlan}
use Rattle.specialise.specs.Tables.{types_in, types_at, exact, are_same, has_same, known_count, forms_by}
use Rattle.specialise.specs.Serving.{types_within, wants_more}
use Rattle.specialise.specs.Orders.{IsBuilt}
use Rattle.specialise.specs.Mains.{AreExact}
use Rattle.specialise.specs.Progress.{fit, CallPlanned, AllPlanned}
use Rattle.specialise.specs.Served.{types_of, group_types, IsMember, HasOwn, shapes_in, CallServed, CallsServed}
use Rattle.specialise.proofs.Forms.{exact_below}
use Rattle.specialise.proofs.Built.{at, members_new, entry_there, from_entry}
use Rattle.specialise.proofs.Progress.{enough_cases, member_entry, within_is}

-- ---- forms and their shapes

base_equal : (t u : Base) → same_base t u ≡ true → u ≡ t
base_equal Int Int h = refl
base_equal Truth Truth h = refl
base_equal Int Truth h = absurd (false≢true h)
base_equal Truth Int h = absurd (false≢true h)

shapes_fit : (types : List ArrayType) (forms : List Form) → all_have_forms types forms ≡ true → fit types (shapes_in forms) ≡ true
shapes_fit [] [] h = refl
shapes_fit [] (f ∷ fs) h = absurd (false≢true h)
shapes_fit (t ∷ ts) [] h = absurd (false≢true h)
shapes_fit (t ∷ ts) (f ∷ fs) h =
    and_both (has_shape t.part f.shape) (fit ts (shapes_in fs))
    (and_right (same_base t.base f.base) (has_shape t.part f.shape) (and_left (has_form t f) (all_have_forms ts fs) h))
    (shapes_fit ts fs (and_right (has_form t f) (all_have_forms ts fs) h))

told_by : (types : List ArrayType) (forms : List Form) → all_have_forms types forms ≡ true → forms ≡ forms_by types (shapes_in forms)
told_by [] [] h = refl
told_by [] (f ∷ fs) h = absurd (false≢true h)
told_by (t ∷ ts) [] h = absurd (false≢true h)
told_by (t ∷ ts) (f ∷ fs) h =
    let base : f.base ≡ t.base = base_equal t.base f.base (and_left (same_base t.base f.base) (has_shape t.part f.shape) (and_left (has_form t f) (all_have_forms ts fs) h)) in
    let rest = told_by ts fs (and_right (has_form t f) (all_have_forms ts fs) h) in
    λ i. record { base = base i; shape = f.shape } ∷ rest i

-- ---- lists of types

or_cases : (b c : Bool) → (b || c) ≡ true → (b ≡ true) ⊎ (c ≡ true)
or_cases true c h = inl refl
or_cases false c h = inr h

same_found : (f : ℕ → List ArrayType) (ns : List ℕ) (types : List ArrayType) → has_same (map f ns) types ≡ true → (n : ℕ) × (StandsIn ns n × (are_same (f n) types ≡ true))
same_found f [] types h = absurd (false≢true h)
same_found f (n ∷ ns) types h = elim (or_cases (are_same (f n) types) (has_same (map f ns) types) h) [
  | inl e ↦ (n, (inl refl, e))
  | inr r ↦ let w = same_found f ns types r in (w.0, (inr w.1.0, w.1.1))
]

map_through : (f : ℕ → List ArrayType) (a : ℕ → ℕ) (g : ℕ → List ArrayType) (ns : List ℕ) → ((n : ℕ) → StandsIn ns n → f (a n) ≡ g n) → map f (map a ns) ≡ map g ns
map_through f a g [] h = refl
map_through f a g (n ∷ ns) h = λ i. h n (inl refl) i ∷ map_through f a g ns (λ m s. h m (inr s)) i

module _ (core new : CoreTerm) (well : IsWellFormed core) (es : List Entry) (gs : List (List ℕ)) (main : ℕ) (plan : IsPlan core es gs) (built : IsBuilt core es gs main new) (special : IsSpecialised core new) where
  -- an own instance that takes what an instance takes
  abbrev OwnFits : ℕ → List Form → Type 0
  OwnFits group forms = (n : ℕ) × (StandsIn (group_at core group) n × (all_have_forms (types_at es n) forms ≡ true))

  own_fits : (group : ℕ) (forms : List Form) (f : FunTerm) → IsMember new group f → all_have_forms (param_types f) forms ≡ true → OwnFits group forms
  own_fits group forms f m fits = elim (member_cases core new well special group m.place m.stands) [
    | inl w ↦
        let g = member core well group w.0 w.1.0 in
        let same : g.0 ≡ f = some_same g.0 f (sym (special.kept w.0 g.0 g.1).0 ∙ ap (slice_get new.functions) w.1.1 ∙ m.there) in
        let types : types_at es w.0 ≡ param_types f = ap types_in (plan.own w.0 g.0 g.1) ∙ ap param_types same in
        (w.0, (w.1.0, ap (λ ts. all_have_forms ts forms) types ∙ fits))
    | inr r ↦
        let v = special.instances group m.place r in
        let narrow = v.1.1 in
        let same : v.0 ≡ f = some_same v.0 f (sym v.1.0 ∙ m.there) in
        let first : all_below (exact forms) (param_types v.0) ≡ true = exact_below (param_types v.0) forms ∙ ap (λ (x : FunTerm). all_have_forms (param_types x) forms) same ∙ fits in
        let below : all_below (exact forms) (param_types narrow.function) ≡ true = all_below_on (exact forms) (param_types v.0) (param_types narrow.function) first narrow.inside in
        let types : types_at es (special.of m.place) ≡ param_types narrow.function = ap types_in (plan.own (special.of m.place) narrow.function narrow.there) in
        (special.of m.place, (narrow.stands, ap (λ ts. all_have_forms ts forms) types ∙ sym (exact_below (param_types narrow.function) forms) ∙ below))
  ]

  module _ (group : ℕ) (own : List ℕ) (there : slice_get core.groups group ≡ Some own) where
    abbrev all : List ℕ
    all = own ++ (plan.groups group own there).further

    group_new : group_at new group ≡ map (at core new es gs main plan built) (own ++ (plan.groups group own there).further)
    group_new = group_is new group (map (at core new es gs main plan built) (own ++ (plan.groups group own there).further)) (members_new core new es gs main plan built group own there)

    same_types : group_types new group ≡ types_within es gs group
    same_types =
        ap (map (λ place. types_of (slice_get new.functions place))) group_new
        ∙ map_through (λ place. types_of (slice_get new.functions place)) (at core new es gs main plan built) (types_at es) (own ++ (plan.groups group own there).further)
        (λ n s.
        let e = member_entry core well es gs plan group own there n s in
        let g = entry_there core new es gs main plan built n e.0 e.1 in
        ap types_of g.1.0 ∙ g.1.1 ∙ sym (ap types_in e.1))
        ∙ sym (within_is core well es gs plan group own there)

    own_new : (forms : List Form) → has_same (types_within es gs group) (exact forms) ≡ true → HasOwn new group forms
    own_new forms h =
        let w = same_found (types_at es) (own ++ (plan.groups group own there).further) (exact forms) (ap (λ ls. has_same ls (exact forms)) (sym (within_is core well es gs plan group own there)) ∙ h) in
        let e = member_entry core well es gs plan group own there w.0 w.1.0 in
        let g = entry_there core new es gs main plan built w.0 e.0 e.1 in
        let types : param_types g.0 ≡ types_at es w.0 = g.1.1 ∙ sym (ap types_in e.1) in
        record {
          function = g.0;
          is = record {
            place = at core new es gs main plan built w.0;
            stands = subst (λ ns. StandsIn ns (at core new es gs main plan built w.0)) (sym group_new) (stands_map (at core new es gs main plan built) (own ++ (plan.groups group own there).further) w.0 w.1.0);
            there = g.1.0;
          };
          alone = record {
            contain = sym (exact_below (param_types g.0) forms) ∙ ap (all_below (exact forms)) types ∙ and_right (all_below (types_at es w.0) (exact forms)) (all_below (exact forms) (types_at es w.0)) w.1.1;
            alone = ap (λ ts. all_below ts (exact forms)) types ∙ and_left (all_below (types_at es w.0) (exact forms)) (all_below (exact forms) (types_at es w.0)) w.1.1;
          };
        }

  call_served : (c : GroupAndShapes) → CallPlanned core es gs c → CallServed new c.0 c.1
  call_served c h forms f shapes m fits =
      let o = own_fits c.0 forms f m fits in
      let w = group_there core c.0 o.0 o.1.0 in
      let same : forms ≡ forms_by (types_at es o.0) c.1 = told_by (types_at es o.0) forms o.1.1 ∙ ap (forms_by (types_at es o.0)) shapes in
      let fitting : fit (types_at es o.0) c.1 ≡ true = ap (fit (types_at es o.0)) (sym shapes) ∙ shapes_fit (types_at es o.0) forms o.1.1 in
      let enough : wants_more (types_within es gs c.0) (exact forms) ≡ false = ap (λ fs. wants_more (types_within es gs c.0) (exact fs)) same ∙ h o.0 o.1.0 fitting in
      elim (enough_cases (types_within es gs c.0) (exact forms) enough) [
        | inl e ↦ inl (own_new c.0 w.0 w.1 forms e)
        | inr l ↦ inr (subst (λ ls. 16 ≤ known_count ls) (sym (same_types c.0 w.0 w.1)) l)
      ]

  pub calls_served : AllPlanned core es gs → CallsServed new
  calls_served done =
      all_by_place (λ (f : FunTerm). All (λ (c : GroupAndShapes). CallServed new c.0 c.1) (known_in (called new) f.body (params_facts f))) new.functions
      (λ place g q.
      let t = from_entry core new es gs main plan built place g q in
      let results : called new ≡ called core = λ i group. same_results core new well special group i in
      let calls : known_in (called new) g.body (params_facts g) ≡ known_in (called core) (t.function).body (typed_facts (param_vars t.function) (t.entry).types) =
      λ i. known_in (results i) (t.body i) (typed_facts (t.vars i) (t.types i)) in
      subst (All (λ (c : GroupAndShapes). CallServed new c.0 c.1)) (sym calls)
      (All-weaker (CallPlanned core es gs) (λ (c : GroupAndShapes). CallServed new c.0 c.1) call_served
      (known_in (called core) (t.function).body (typed_facts (param_vars t.function) (t.entry).types)) (done t.number t.entry t.found t.function t.there)))

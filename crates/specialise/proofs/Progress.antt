-- Plans grow, and what is served in them stays served.
use Rattle.std.proofs.Common.{◌≡◌, ℕ, zero, suc, ◌+◌, ◌<◌, ◌≤◌, Bool, true, false, ◌&&◌, ◌||◌, not, List, [], ◌∷◌, ◌++◌, map, length, get_or, All, Option, Some, None, refl, sym, ap, subst, ◌∙◌, append_assoc, append-nil, arith, ◌⊎◌, inl, inr}
use Rattle.std.specs.Prelude.{slice_get, unwrap_or, AllPairs, nat_lt, if◌then◌else◌}
use Rattle.std.specs.List.{list_all}
use Rattle.std.proofs.lemmas.Bool.{false≢true, ltb-false, le-ltb, cases_lt}
use Rattle.std.proofs.lemmas.Option.{slice_get-get_or}
use Rattle.shape_types.proofs.Inclusion.{and_left, and_right, and_both}
use Rattle.sac_base.specs.declared.base.Base.{Base}
use Rattle.sac_base.specs.declared.base.Base.TheVariants.{Int, Bool as Truth}
use Rattle.sac_base.specs.declared.form.Form.{Form}
use Rattle.sac_base.specs.declared.types.ArrayType.{ArrayType}
use Rattle.sac_base.specs.Arrays.{same_base}
use Rattle.sac_base.specs.Types.{has_form, has_shape, all_have_forms, all_below, compatible, all_compatible}
use Rattle.core_ir.specs.Outcome.{param_types, group_at}
use Rattle.core_ir.specs.Terms.{FunTerm, CoreTerm}
use Rattle.core_ir.specs.WellFormed.{IsWellFormed, PlacesShare}
use Rattle.core_facts.specs.calls.Nests.{StandsIn}
use Rattle.specialise.specs.groups.Specialised.{all_known}
use Rattle.specialise.proofs.groups.Lists.{some_same, none_some, stands_left, stands_right, stands_cases, stands_at, all_at, all_found, pairs_head, pairs_tail}
use Rattle.specialise.proofs.groups.Choice.{group_is, group_there, member}
use Rattle.known_calls.specs.Known.{GroupAndShapes}
use Rattle.specialise.specs.Plans.{Entry, joined, HasFurther, IsPlan, Keeps}
use Rattle.specialise.specs.Tables.{types_in, types_at, exact, are_same, has_same, known_count, forms_by}
use Rattle.specialise.specs.Serving.{types_within, wants_more, Serves}
use Rattle.specialise.specs.Progress.{Grows, fit, ServesPlace, IsEnough, CallPlanned}
use Rattle.specialise.proofs.Forms.{exact_itself, found_same}
use Rattle.specialise.proofs.Planning.{still, last_at, joined_at, joined_other, same_or, stays_in}

-- ---- plans that grow

pub grows_itself : (es : List Entry) (gs : List (List ℕ)) → Grows es gs es gs
grows_itself es gs = record { kept = λ n e h. h; longer = λ group ns h. ([], h ∙ ap (λ (ks : List ℕ). Some ks) (sym (append-nil ns))) }

pub grows_through : (es : List Entry) (gs : List (List ℕ)) (ms : List Entry) (hs : List (List ℕ)) (more : List Entry) (others : List (List ℕ)) → Grows es gs ms hs → Grows ms hs more others → Grows es gs more others
grows_through es gs ms hs more others p q = record {
  kept = λ n e h. q.kept n e (p.kept n e h);
  longer = λ group ns h.
      let v = p.longer group ns h in
      let w = q.longer group (ns ++ v.0) v.1 in
      (v.0 ++ w.0, w.1 ∙ ap (λ (ks : List ℕ). Some ks) (append_assoc ns v.0 w.0));
}

one_more : (es : List Entry) (gs : List (List ℕ)) (x : Entry) (group n : ℕ) → Grows es gs (es ++ (x ∷ [])) (joined gs group n)
one_more es gs x group n = record {
  kept = still es x;
  longer = λ g ns h. elim (same_or g group) [
    | inl q ↦ (n ∷ [], ap (slice_get (joined gs group n)) q ∙ joined_at gs group n ns (ap (slice_get gs) (sym q) ∙ h))
    | inr other ↦ ([], joined_other gs group g n other ∙ h ∙ ap (λ (ks : List ℕ). Some ks) (sym (append-nil ns)))
  ];
}

grows_served : (own : List ℕ) (group : ℕ) (forms : List Form) (es : List Entry) (gs : List (List ℕ)) (more : List Entry) (others : List (List ℕ)) → Serves own group forms es gs more others → Grows es gs more others
grows_served own group forms es gs more others s = elim s [
  | inl v ↦
      subst (λ ns. Grows es gs ns others) (sym v.entries)
      (subst (Grows es gs (es ++ (record { source = v.source; types = exact forms } ∷ []))) (sym v.groups) (one_more es gs (record { source = v.source; types = exact forms }) group (length es)))
  | inr l ↦ subst (λ ns. Grows es gs ns others) (sym l.entries) (subst (Grows es gs es) (sym l.groups) (grows_itself es gs))
]

pub grows_place : (own : List ℕ) (group : ℕ) (shapes : List (List ℕ)) (place : ℕ) (es : List Entry) (gs : List (List ℕ)) (more : List Entry) (others : List (List ℕ)) → ServesPlace own group shapes place es gs more others → Grows es gs more others
grows_place own group shapes place es gs more others s = elim s [
  | inl l ↦ subst (λ ns. Grows es gs ns others) (sym l.1) (subst (Grows es gs es) (sym l.2) (grows_itself es gs))
  | inr r ↦ grows_served own group (forms_by (types_at es place) shapes) es gs more others r.1
]

-- ---- more instances want no more

or_on : (b c d : Bool) → (c ≡ true → d ≡ true) → (b || c) ≡ true → (b || d) ≡ true
or_on true c d f h = refl
or_on false c d f h = f h

same_on : (lists rest : List (List ArrayType)) (types : List ArrayType) → has_same lists types ≡ true → has_same (lists ++ rest) types ≡ true
same_on [] rest types h = absurd (false≢true h)
same_on (x ∷ xs) rest types h = or_on (are_same x types) (has_same xs types) (has_same (xs ++ rest) types) (same_on xs rest types) h

if_on : (b : Bool) (m n : ℕ) → m ≤ n → (if b then suc m else m) ≤ (if b then suc n else n)
if_on true m n h = omega (arith, h)
if_on false m n h = h

count_on : (lists rest : List (List ArrayType)) → known_count lists ≤ known_count (lists ++ rest)
count_on [] rest = omega arith
count_on (x ∷ xs) rest = if_on (all_known x) (known_count xs) (known_count (xs ++ rest)) (count_on xs rest)

and_none : (b : Bool) → (b && false) ≡ false
and_none true = refl
and_none false = refl

pub full_enough : (lists : List (List ArrayType)) (types : List ArrayType) → nat_lt (known_count lists) 16 ≡ false → wants_more lists types ≡ false
full_enough lists types h = ap (λ b. not (has_same lists types) && b) h ∙ and_none (not (has_same lists types))

same_enough : (lists : List (List ArrayType)) (types : List ArrayType) → has_same lists types ≡ true → wants_more lists types ≡ false
same_enough lists types h = ap (λ b. not b && nat_lt (known_count lists) 16) h

-- no more is wanted as there is an instance, or as there are 16
pub enough_cases : (lists : List (List ArrayType)) (types : List ArrayType) → wants_more lists types ≡ false → (has_same lists types ≡ true) ⊎ (16 ≤ known_count lists)
enough_cases lists types h = go (has_same lists types) refl
  where
    go : (b : Bool) → has_same lists types ≡ b → (has_same lists types ≡ true) ⊎ (16 ≤ known_count lists)
    go true e = inl e
    go false e = inr (ltb-false (known_count lists) 16 (sym (ap (λ b. not b && nat_lt (known_count lists) 16) e) ∙ h))

enough_on : (lists rest : List (List ArrayType)) (types : List ArrayType) → wants_more lists types ≡ false → wants_more (lists ++ rest) types ≡ false
enough_on lists rest types h = elim (enough_cases lists types h) [
  | inl e ↦ same_enough (lists ++ rest) types (same_on lists rest types e)
  | inr l ↦ full_enough (lists ++ rest) types (le-ltb (known_count (lists ++ rest)) 16 (let m = count_on lists rest in omega (arith, l, m)))
]

-- ---- lists of types

types_kept : (es more : List Entry) (n : ℕ) (e : Entry) → Keeps es more → slice_get es n ≡ Some e → types_at more n ≡ types_at es n
types_kept es more n e k h = ap types_in (k n e h ∙ sym h)

map_apart : (f : ℕ → List ArrayType) (ms ns : List ℕ) → map f (ms ++ ns) ≡ map f ms ++ map f ns
map_apart f [] ns = refl
map_apart f (m ∷ ms) ns = λ i. f m ∷ map_apart f ms ns i

pub map_same : (f g : ℕ → List ArrayType) (ns : List ℕ) → ((n : ℕ) → StandsIn ns n → f n ≡ g n) → map f ns ≡ map g ns
map_same f g [] h = refl
map_same f g (n ∷ ns) h = λ i. h n (inl refl) i ∷ map_same f g ns (λ m s. h m (inr s)) i

all_on : (types : List ArrayType) (f : ℕ → List ArrayType) (ns : List ℕ) → ((m : ℕ) → StandsIn ns m → compatible types (f m) ≡ true) → list_all (compatible types) (map f ns) ≡ true
all_on types f [] h = refl
all_on types f (n ∷ ns) h = and_both (compatible types (f n)) (list_all (compatible types) (map f ns)) (h n (inl refl)) (all_on types f ns (λ m s. h m (inr s)))

-- ---- types that contain arrays of some shapes

base_itself : (t : Base) → same_base t t ≡ true
base_itself Int = refl
base_itself Truth = refl

have_forms : (types : List ArrayType) (shapes : List (List ℕ)) → fit types shapes ≡ true → all_have_forms types (forms_by types shapes) ≡ true
have_forms [] [] h = refl
have_forms [] (s ∷ ss) h = absurd (false≢true h)
have_forms (t ∷ ts) [] h = absurd (false≢true h)
have_forms (t ∷ ts) (s ∷ ss) h =
    and_both (same_base t.base t.base && has_shape t.part s) (all_have_forms ts (forms_by ts ss))
    (and_both (same_base t.base t.base) (has_shape t.part s) (base_itself t.base) (and_left (has_shape t.part s) (fit ts ss) h))
    (have_forms ts ss (and_right (has_shape t.part s) (fit ts ss) h))

pub length-fit : (types : List ArrayType) (shapes : List (List ℕ)) → fit types shapes ≡ true → length types ≡ length shapes
length-fit [] [] h = refl
length-fit [] (s ∷ ss) h = absurd (false≢true h)
length-fit (t ∷ ts) [] h = absurd (false≢true h)
length-fit (t ∷ ts) (s ∷ ss) h = ap suc (length-fit ts ss (and_right (has_shape t.part s) (fit ts ss) h))

-- ---- a plan of a well-formed core

module _ (core : CoreTerm) (well : IsWellFormed core) (es : List Entry) (gs : List (List ℕ)) (plan : IsPlan core es gs) where
  abbrev further_at : (group : ℕ) (own : List ℕ) → slice_get core.groups group ≡ Some own → List ℕ
  further_at group own there = (plan.groups group own there).further

  own_entry : (group place : ℕ) → StandsIn (group_at core group) place → (e : Entry) × (slice_get es place ≡ Some e)
  own_entry group place s =
      let m = member core well group place s in
      (record { source = place; types = param_types m.0 }, plan.own place m.0 m.1)

  pub member_entry : (group : ℕ) (own : List ℕ) (there : slice_get core.groups group ≡ Some own) (n : ℕ) → StandsIn (own ++ (plan.groups group own there).further) n → (e : Entry) × (slice_get es n ≡ Some e)
  member_entry group own there n s = elim (stands_cases own (plan.groups group own there).further n s) [
    | inl l ↦ own_entry group n (subst (λ ns. StandsIn ns n) (sym (group_is core group own there)) l)
    | inr r ↦ let w = (plan.groups group own there).narrowed n r in (w.0, w.1.0)
  ]

  pub within_is : (group : ℕ) (own : List ℕ) (there : slice_get core.groups group ≡ Some own) → types_within es gs group ≡ map (types_at es) (own ++ (plan.groups group own there).further)
  within_is group own there = ap (λ o. map (types_at es) (unwrap_or o [])) (plan.groups group own there).all

  pub enough_stays : (more : List Entry) (others : List (List ℕ)) → Grows es gs more others → (group : ℕ) (shapes : List (List ℕ)) (place : ℕ) → StandsIn (group_at core group) place
      → IsEnough es gs group shapes place → IsEnough more others group shapes place
  enough_stays more others g group shapes place s h fits =
      let w = group_there core group place s in
      let all = w.0 ++ (plan.groups group w.0 w.1).further in
      let e = own_entry group place s in
      let same : types_at more place ≡ types_at es place = types_kept es more place e.0 g.kept e.1 in
      let before = h (ap (λ ts. fit ts shapes) (sym same) ∙ fits) in
      let l = g.longer group (w.0 ++ (plan.groups group w.0 w.1).further) (plan.groups group w.0 w.1).all in
      let lists : types_within more others group ≡ types_within es gs group ++ map (types_at more) l.0 =
      ap (λ o. map (types_at more) (unwrap_or o [])) l.1 ∙ map_apart (types_at more) all l.0
      ∙ ap (λ xs. xs ++ map (types_at more) l.0) (map_same (types_at more) (types_at es) all (λ n t. let d = member_entry group w.0 w.1 n t in types_kept es more n d.0 g.kept d.1) ∙ sym (within_is group w.0 w.1)) in
      (λ i. wants_more (lists i) (exact (forms_by (same i) shapes)))
      ∙ enough_on (types_within es gs group) (map (types_at more) l.0) (exact (forms_by (types_at es place) shapes)) before

  pub call_stays : (more : List Entry) (others : List (List ℕ)) → Grows es gs more others → (c : GroupAndShapes) → CallPlanned core es gs c → CallPlanned core more others c
  call_stays more others g c h place s = enough_stays more others g c.0 c.1 place s (h place s)

  -- ---- a call that was served

  compatible_all : (group : ℕ) (own : List ℕ) → slice_get core.groups group ≡ Some own → all_compatible (map (types_at es) own) ≡ true
  compatible_all group own there =
      go own (all_found (λ (ns : List ℕ). AllPairs (PlacesShare core.functions) ns) core.groups group own well.names there)
      (λ n s. subst (λ ns. StandsIn ns n) (sym (group_is core group own there)) s)
    where
      types : (n : ℕ) (m : (f : FunTerm) × (slice_get core.functions n ≡ Some f)) → types_at es n ≡ param_types m.0
      types n m = ap types_in (plan.own n m.0 m.1)

      go : (ns : List ℕ) → AllPairs (PlacesShare core.functions) ns → ((n : ℕ) → StandsIn ns n → StandsIn (group_at core group) n) → all_compatible (map (types_at es) ns) ≡ true
      go [] p h = refl
      go (n ∷ ns) p h =
          let a = member core well group n (h n (inl refl)) in
          and_both (list_all (compatible (types_at es n)) (map (types_at es) ns)) (all_compatible (map (types_at es) ns))
          (all_on (types_at es n) (types_at es) ns (λ m s.
          let b = member core well group m (h m (inr s)) in
          let share = all_at (PlacesShare core.functions n) ns m (pairs_head (PlacesShare core.functions) n ns p) s a.0 b.0 a.1 b.1 in
          (λ i. compatible (types n a i) (types m b i)) ∙ share.types))
          (go ns (pairs_tail (PlacesShare core.functions) n ns p) (λ m s. h m (inr s)))

  new_enough : (group : ℕ) (own : List ℕ) (there : slice_get core.groups group ≡ Some own) (forms : List Form) (source : ℕ)
      → wants_more (types_within (es ++ (record { source = source; types = exact forms } ∷ [])) (joined gs group (length es)) group) (exact forms) ≡ false
  new_enough group own there forms source =
      let new : Entry = record { source = source; types = exact forms } in
      let more = es ++ (new ∷ []) in
      let all = own ++ (plan.groups group own there).further in
      let here : types_at more (length es) ≡ exact forms = ap types_in (last_at es new) in
      let lists : types_within more (joined gs group (length es)) group ≡ map (types_at more) (all ++ (length es ∷ [])) =
      ap (λ o. map (types_at more) (unwrap_or o [])) (joined_at gs group (length es) all (plan.groups group own there).all) in
      ap (λ ls. wants_more ls (exact forms)) lists
      ∙ same_enough (map (types_at more) (all ++ (length es ∷ []))) (exact forms)
      (found_same more (all ++ (length es ∷ [])) (length es) (exact forms) (stands_right all (length es ∷ []) (length es) (inl refl))
      (ap (λ ts. all_below ts (exact forms)) here ∙ exact_itself forms) (ap (all_below (exact forms)) here ∙ exact_itself forms))

  served_enough : (group : ℕ) (own : List ℕ) → slice_get core.groups group ≡ Some own → (forms : List Form) (more : List Entry) (others : List (List ℕ)) → Serves own group forms es gs more others
      → (place : ℕ) → StandsIn own place → all_have_forms (types_at es place) forms ≡ true → wants_more (types_within more others group) (exact forms) ≡ false
  served_enough group own there forms more others s place stands fits = elim s [
    | inl v ↦ (λ i. wants_more (types_within (v.entries i) (v.groups i) group) (exact forms)) ∙ new_enough group own there forms v.source
    | inr l ↦ (λ i. wants_more (types_within (l.entries i) (l.groups i) group) (exact forms)) ∙ elim l.reason [
      | inl none ↦ absurd (none (compatible_all group own there) place stands fits)
      | inr q ↦ q
    ]
  ]

  pub planned_place : (group : ℕ) (own : List ℕ) → own ≡ group_at core group → (shapes : List (List ℕ)) (place : ℕ) → StandsIn own place → (more : List Entry) (others : List (List ℕ))
      → ServesPlace own group shapes place es gs more others → IsPlan core more others
  planned_place group own e shapes place stands more others s = elim s [
    | inl l ↦ subst (λ ns. IsPlan core ns others) (sym l.1) (subst (IsPlan core es) (sym l.2) plan)
    | inr r ↦ stays_in core well es gs plan group own e place stands (forms_by (types_at es place) shapes) more others r.1
  ]

  pub enough_place : (group : ℕ) (own : List ℕ) → own ≡ group_at core group → (shapes : List (List ℕ)) (place : ℕ) → StandsIn own place → (more : List Entry) (others : List (List ℕ))
      → ServesPlace own group shapes place es gs more others → IsEnough more others group shapes place
  enough_place group own e shapes place stands more others s fits =
      let w = group_there core group place (subst (λ ns. StandsIn ns place) e stands) in
      let there : slice_get core.groups group ≡ Some own = w.1 ∙ ap (λ (ns : List ℕ). Some ns) (sym (group_is core group w.0 w.1) ∙ sym e) in
      let d = own_entry group place (subst (λ ns. StandsIn ns place) e stands) in
      let same : types_at more place ≡ types_at es place = types_kept es more place d.0 (grows_place own group shapes place es gs more others s).kept d.1 in
      elim s [
        | inl l ↦ absurd (false≢true (sym l.0 ∙ ap (λ ts. fit ts shapes) (sym same) ∙ fits))
        | inr r ↦
            (λ i. wants_more (types_within more others group) (exact (forms_by (same i) shapes)))
            ∙ served_enough group own there (forms_by (types_at es place) shapes) more others r.1 place stands (have_forms (types_at es place) shapes r.0)
      ]

-- ---- one turn of the loops

-- enough at the places of a list below a number
abbrev pub EnoughTo : List Entry → List (List ℕ) → ℕ → List (List ℕ) → List ℕ → ℕ → Type 0
EnoughTo es gs group shapes own k = (i place : ℕ) → i < k → slice_get own i ≡ Some place → IsEnough es gs group shapes place

stands_here : (ns : List ℕ) (i n : ℕ) → slice_get ns i ≡ Some n → StandsIn ns n
stands_here [] i n h = absurd (none_some n h)
stands_here (m ∷ ns) zero n h = inl (some_same m n h)
stands_here (m ∷ ns) (suc i) n h = inr (stands_here ns i n h)

pub place_done : (core : CoreTerm) → IsWellFormed core → (es : List Entry) (gs : List (List ℕ)) → IsPlan core es gs → (more : List Entry) (others : List (List ℕ)) → Grows es gs more others
    → (group : ℕ) (own : List ℕ) → own ≡ group_at core group → (shapes : List (List ℕ)) (k here : ℕ) → slice_get own k ≡ Some here → IsEnough more others group shapes here
    → EnoughTo es gs group shapes own k → EnoughTo more others group shapes own (k + 1)
place_done core well es gs plan more others g group own e shapes k here at enough h i place lt found = elim (cases_lt i k) [
  | inl l ↦ enough_stays core well es gs plan more others g group shapes place (subst (λ ns. StandsIn ns place) e (stands_here own i place found)) (h i place l found)
  | inr m ↦
      let same : i ≡ k = omega (arith, lt, m) in
      subst (IsEnough more others group shapes) (some_same here place (sym at ∙ ap (slice_get own) (sym same) ∙ found)) enough
]

pub all_places : (core : CoreTerm) (es : List Entry) (gs : List (List ℕ)) (c : GroupAndShapes) (own : List ℕ) → own ≡ group_at core c.0 → (k : ℕ) → length own ≤ k → EnoughTo es gs c.0 c.1 own k → CallPlanned core es gs c
all_places core es gs c own e k le h place s =
    let w = stands_at own place (subst (λ ns. StandsIn ns place) (sym e) s) in
    h w.0 place (omega (arith, w.1, le)) (slice_get-get_or own w.0 0 w.1 ∙ ap (λ (n : ℕ). Some n) w.2)

pub no_room : (core : CoreTerm) (es : List Entry) (gs : List (List ℕ)) (c : GroupAndShapes) → nat_lt (known_count (types_within es gs c.0)) 16 ≡ false → CallPlanned core es gs c
no_room core es gs c full place s fits = full_enough (types_within es gs c.0) (exact (forms_by (types_at es place) c.1)) full

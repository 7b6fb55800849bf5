-- A plan stays one, where an instance is put into a group.
use Rattle.std.proofs.Common.{◌≡◌, ℕ, zero, suc, ◌<◌, ◌≤◌, Bool, true, false, ◌&&◌, not, List, [], ◌∷◌, ◌++◌, map, length, Option, Some, None, refl, sym, ap, subst, ◌∙◌, ◌+◌, append_assoc, append-nil, arith, ◌⊎◌, inl, inr}
use Rattle.std.specs.Prelude.{slice_get, unwrap_or, AllPairs, nat_lt, if◌then◌else◌}
use Rattle.std.proofs.lemmas.Bool.{false≢true}
use Rattle.std.proofs.lemmas.Bool.Decides.{nat_tests}
use Rattle.shape_types.proofs.Inclusion.{and_right}
use Rattle.std.proofs.lemmas.Option.{slice_get_within}
use Rattle.sac_base.specs.declared.form.Form.{Form}
use Rattle.sac_base.specs.declared.types.ArrayType.{ArrayType}
use Rattle.sac_base.specs.Types.{all_have_forms, all_below}
use Rattle.core_ir.specs.Outcome.{param_types, group_at}
use Rattle.core_ir.specs.Terms.{FunTerm, CoreTerm}
use Rattle.core_ir.specs.WellFormed.{IsWellFormed, bases as bases_of}
use Rattle.core_facts.specs.calls.Nests.{StandsIn}
use Rattle.specialise.specs.groups.Specialised.{all_known, IsNarrowed}
use Rattle.specialise.proofs.groups.Lists.{some_same, none_some, stands_left, stands_right, stands_cases, pairs_append, pairs_weaker}
use Rattle.specialise.proofs.groups.Choice.{group_is, group_there, member}
use Rattle.specialise.specs.Plans.{Entry, owns, joined, IsEntry, LaterElsewhere, HasFurther, IsPlan, Keeps}
use Rattle.specialise.specs.Tables.{types_in, types_at, exact, has_same, known_count}
use Rattle.specialise.specs.Serving.{types_within, wants_more, IsSource, IsServed, IsLeft, Serves}
use Rattle.specialise.proofs.Forms.{exact_known, exact_below, below_bases, known_turned, found_same}

-- ---- lists with one more

pub still : {A : Type 0} (xs : List A) (y : A) (i : ℕ) (x : A) → slice_get xs i ≡ Some x → slice_get (xs ++ (y ∷ [])) i ≡ Some x
still [] y i x e = absurd (none_some x e)
still (z ∷ xs) y zero x e = e
still (z ∷ xs) y (suc i) x e = still xs y i x e

pub last_at : {A : Type 0} (xs : List A) (y : A) → slice_get (xs ++ (y ∷ [])) (length xs) ≡ Some y
last_at [] y = refl
last_at (x ∷ xs) y = last_at xs y

pub before_or_last : {A : Type 0} (xs : List A) (y : A) (i : ℕ) (x : A) → slice_get (xs ++ (y ∷ [])) i ≡ Some x → (slice_get xs i ≡ Some x) ⊎ (y ≡ x)
before_or_last [] y zero x e = inr (some_same y x e)
before_or_last [] y (suc i) x e = absurd (none_some x e)
before_or_last (z ∷ xs) y zero x e = inl e
before_or_last (z ∷ xs) y (suc i) x e = before_or_last xs y i x e

pub joined_length : (gs : List (List ℕ)) (g n : ℕ) → length (joined gs g n) ≡ length gs
joined_length [] g n = refl
joined_length (ns ∷ gs) zero n = refl
joined_length (ns ∷ gs) (suc g) n = ap suc (joined_length gs g n)

pub joined_at : (gs : List (List ℕ)) (g n : ℕ) (ns : List ℕ) → slice_get gs g ≡ Some ns → slice_get (joined gs g n) g ≡ Some (ns ++ (n ∷ []))
joined_at [] g n ns e = absurd (none_some ns e)
joined_at (ms ∷ gs) zero n ns e = ap (λ (ks : List ℕ). Some (ks ++ (n ∷ []))) (some_same ms ns e)
joined_at (ms ∷ gs) (suc g) n ns e = joined_at gs g n ns e

pub joined_other : (gs : List (List ℕ)) (g k n : ℕ) → (k ≡ g → ⊥) → slice_get (joined gs g n) k ≡ slice_get gs k
joined_other [] g k n h = refl
joined_other (ms ∷ gs) zero zero n h = absurd (h refl)
joined_other (ms ∷ gs) zero (suc k) n h = refl
joined_other (ms ∷ gs) (suc g) zero n h = refl
joined_other (ms ∷ gs) (suc g) (suc k) n h = joined_other gs g k n (λ e. h (ap suc e))

pub same_or : (i j : ℕ) → (i ≡ j) ⊎ (i ≡ j → ⊥)
same_or zero zero = inl refl
same_or zero (suc j) = inr (λ e. omega (arith, e))
same_or (suc i) zero = inr (λ e. omega (arith, e))
same_or (suc i) (suc j) = elim (same_or i j) [ inl e ↦ inl (ap suc e) | inr h ↦ inr (λ e. h (omega (arith, e))) ]

none_same : (lists : List (List ArrayType)) (types : List ArrayType) → wants_more lists types ≡ true → has_same lists types ≡ true → ⊥
none_same lists types h e = false≢true (sym (ap (λ b. not b && nat_lt (known_count lists) 16) e) ∙ h)

false_by : (b : Bool) → (b ≡ true → ⊥) → b ≡ false
false_by true h = absurd (h refl)
false_by false h = refl

below_sixteen : (n : ℕ) → nat_lt n 16 ≡ true → n < 16
below_sixteen n h = grind (arith, nat_tests)

one_more_long : (ns : List ℕ) (n most : ℕ) → length ns < most → length (ns ++ (n ∷ [])) ≤ most
one_more_long [] n most h = omega (arith, h)
one_more_long (m ∷ ns) n zero h = absurd (omega (arith, h))
one_more_long (m ∷ ns) n (suc most) h = let q = one_more_long ns n most (omega (arith, h)) in omega (arith, q)

counted_on : (types : List ArrayType) (lists : List (List ArrayType)) → known_count lists ≤ known_count (types ∷ lists)
counted_on types lists = go (all_known types) refl
  where
    go : (b : Bool) → all_known types ≡ b → known_count lists ≤ (if all_known types then suc (known_count lists) else known_count lists)
    go true e = subst (λ x. known_count lists ≤ (if x then suc (known_count lists) else known_count lists)) (sym e) (omega arith)
    go false e = subst (λ x. known_count lists ≤ (if x then suc (known_count lists) else known_count lists)) (sym e) (omega arith)

-- further instances have known shapes, so there are at most as many of them
known_more : (es : List Entry) (own further : List ℕ) → ((n : ℕ) → StandsIn further n → all_known (types_at es n) ≡ true) → length further ≤ known_count (map (types_at es) (own ++ further))
known_more es [] [] h = omega arith
known_more es [] (n ∷ ns) h =
    let rest = known_more es [] ns (λ m s. h m (inr s)) in
    subst (λ x. suc (length ns) ≤ (if x then suc (known_count (map (types_at es) ns)) else known_count (map (types_at es) ns))) (sym (h n (inl refl))) (omega (arith, rest))
known_more es (m ∷ own) further h =
    let rest = known_more es own further h in
    let on = counted_on (types_at es m) (map (types_at es) (own ++ further)) in
    omega (arith, rest, on)

module _ (core : CoreTerm) (well : IsWellFormed core) (es : List Entry) (gs : List (List ℕ)) (plan : IsPlan core es gs) (group : ℕ) (own : List ℕ) (there : slice_get core.groups group ≡ Some own) (forms : List Form) where
  abbrev among : HasFurther core es gs group own
  among = plan.groups group own there

  within : types_within es gs group ≡ map (types_at es) (own ++ (plan.groups group own there).further)
  within = ap (λ o. map (types_at es) (unwrap_or o [])) (plan.groups group own there).all

  own_types : (place : ℕ) (f : FunTerm) → slice_get core.functions place ≡ Some f → types_at es place ≡ param_types f
  own_types place f e = ap types_in (plan.own place f e)

  stood : (place : ℕ) → StandsIn own place → StandsIn (group_at core group) place
  stood place s = subst (λ ns. StandsIn ns place) (sym (group_is core group own there)) s

  unstood : (place : ℕ) → StandsIn (group_at core group) place → StandsIn own place
  unstood place s = subst (λ ns. StandsIn ns place) (group_is core group own there) s

  module _ (source : ℕ) (is : IsSource es own forms source) (wanted : wants_more (types_within es gs group) (exact forms) ≡ true) where
    no_same : (n : ℕ) → StandsIn (own ++ (plan.groups group own there).further) n → all_below (types_at es n) (exact forms) ≡ true → all_below (exact forms) (types_at es n) ≡ true → ⊥
    no_same n s h g =
        none_same (types_within es gs group) (exact forms) wanted
        (ap (λ lists. has_same lists (exact forms)) within ∙ found_same es (own ++ (plan.groups group own there).further) n (exact forms) s h g)

    narrowed : IsNarrowed core group source (exact forms)
    narrowed =
        let m = member core well group source (stood source is.stands) in
        let types = own_types source m.0 m.1 in
        let inside : all_below (exact forms) (types_at es source) ≡ true = exact_below (types_at es source) forms ∙ is.fits in
        record {
          function = m.0;
          there = m.1;
          stands = stood source is.stands;
          known = exact_known forms;
          inside = ap (all_below (exact forms)) (sym types) ∙ inside;
          narrower = false_by (all_below (param_types m.0) (exact forms)) (λ e. no_same source (stands_left own (plan.groups group own there).further source is.stands) (ap (λ ts. all_below ts (exact forms)) types ∙ e) inside);
          least = λ other h s e below.
              (λ i. all_below (sym types i) (sym (own_types other h e) i))
              ∙ is.least other (unstood other s) (ap (λ ts. all_have_forms ts forms) (own_types other h e) ∙ sym (exact_below (param_types h) forms) ∙ below);
        }

    abbrev new : Entry
    new = record { source = source; types = exact forms }

    abbrev more : List Entry
    more = es ++ (record { source = source; types = exact forms } ∷ [])

    entry_is : (n : ℕ) (d e : Entry) → slice_get es n ≡ Some d → slice_get more n ≡ Some e → d ≡ e
    entry_is n d e h g = some_same d e (sym (still es (record { source = source; types = exact forms }) n d h) ∙ g)

    weaker : (g : ℕ) (places : List ℕ) (q : slice_get core.groups g ≡ Some places) → AllPairs (LaterElsewhere more) (plan.groups g places q).further
    weaker g places q =
        let h = plan.groups g places q in
        pairs_weaker (LaterElsewhere es) (LaterElsewhere more) h.further
        (λ m n s t r d e ed ee.
        let u = h.narrowed m s in
        let w = h.narrowed n t in
        (λ i. all_below (sym (entry_is n w.0 e w.1.0 ee) i).types (sym (entry_is m u.0 d u.1.0 ed) i).types) ∙ r u.0 w.0 u.1.0 w.1.0) h.apart

    kept_narrowed : (g : ℕ) (places : List ℕ) (q : slice_get core.groups g ≡ Some places) (n : ℕ) → StandsIn (plan.groups g places q).further n → (e : Entry) × ((slice_get more n ≡ Some e) × IsNarrowed core g e.source e.types)
    kept_narrowed g places q n s =
        let w = (plan.groups g places q).narrowed n s in
        (w.0, (still es (record { source = source; types = exact forms }) n w.0 w.1.0, w.1.1))

    fewer : length (plan.groups group own there).further < 16
    fewer =
        let h = plan.groups group own there in
        let known = known_more es own h.further (λ n s. let w = h.narrowed n s in ap all_known (ap types_in w.1.0) ∙ w.1.1.known) in
        let low = below_sixteen (known_count (types_within es gs group)) (and_right (not (has_same (types_within es gs group) (exact forms))) (nat_lt (known_count (types_within es gs group)) 16) wanted) in
        let same : known_count (types_within es gs group) ≡ known_count (map (types_at es) (own ++ h.further)) = ap known_count within in
        omega (arith, known, low, same)

    cross : (m n : ℕ) → StandsIn (plan.groups group own there).further m → StandsIn (length es ∷ []) n → LaterElsewhere more m n
    cross m n s t d e ed ee =
        let w = (plan.groups group own there).narrowed m s in
        let last : n ≡ length es = elim t [ inl q ↦ sym q | inr r ↦ absurd r ] in
        let second : new ≡ e = some_same new e (sym (last_at es new) ∙ ap (slice_get more) (sym last) ∙ ee) in
        let first : w.0 ≡ d = entry_is m w.0 d w.1.0 ed in
        let types : types_at es m ≡ (w.0).types = ap types_in w.1.0 in
        (λ i. all_below (sym second i).types (sym first i).types)
        ∙ false_by (all_below (exact forms) (w.0).types) (λ h.
        no_same m (stands_right own (plan.groups group own there).further m s)
        (ap (λ ts. all_below ts (exact forms)) types ∙ known_turned (exact forms) (w.0).types (exact_known forms) w.1.1.known h)
        (ap (all_below (exact forms)) types ∙ h))

    groups : (g : ℕ) (places : List ℕ) → slice_get core.groups g ≡ Some places → HasFurther core more (joined gs group (length es)) g places
    groups g places q = elim (same_or g group) [
      | inr other ↦ record {
        further = (plan.groups g places q).further;
        all = joined_other gs group g (length es) other ∙ (plan.groups g places q).all;
        narrowed = kept_narrowed g places q;
        apart = weaker g places q;
        few = (plan.groups g places q).few;
      }
      | inl same ↦
          subst (λ k. HasFurther core more (joined gs group (length es)) k places) (sym same)
          (subst (HasFurther core more (joined gs group (length es)) group) (some_same own places (sym there ∙ ap (slice_get core.groups) (sym same) ∙ q)) (record {
            further = (plan.groups group own there).further ++ (length es ∷ []);
            all = joined_at gs group (length es) _ (plan.groups group own there).all ∙ ap (λ (ns : List ℕ). Some ns) (append_assoc own (plan.groups group own there).further (length es ∷ []));
            narrowed = λ n s. elim (stands_cases (plan.groups group own there).further (length es ∷ []) n s) [
              | inl l ↦ kept_narrowed group own there n l
              | inr r ↦ (new, (elim r [ inl e ↦ ap (slice_get more) (sym e) ∙ last_at es new | inr z ↦ absurd z ], narrowed))
            ];
            apart =
                pairs_append (LaterElsewhere more) (plan.groups group own there).further (length es ∷ []) (weaker group own there)
                (λ i j d l m. absurd (omega (arith, l, m))) cross;
            few = one_more_long (plan.groups group own there).further (length es) 16 fewer;
          }))
    ]

    pub served : IsPlan core more (joined gs group (length es))
    served = record {
      own = λ place f e. still es new place _ (plan.own place f e);
      made = λ n e q. elim (before_or_last es new n e q) [
        | inl l ↦ plan.made n e l
        | inr r ↦ subst (IsEntry core) r (record { function = narrowed.function; there = narrowed.there; bases = below_bases (exact forms) (param_types narrowed.function) narrowed.inside })
      ];
      count = joined_length gs group (length es) ∙ plan.count;
      groups = groups;
    }

  pub stays : (new : List Entry) (others : List (List ℕ)) → Serves own group forms es gs new others → IsPlan core new others
  stays new others s = elim s [
    | inl v ↦ subst (λ ns. IsPlan core ns others) (sym v.entries) (subst (IsPlan core (es ++ (record { source = v.source; types = exact forms } ∷ []))) (sym v.groups) (served v.source v.is v.wanted))
    | inr l ↦ subst (λ ns. IsPlan core ns others) (sym l.entries) (subst (IsPlan core es) (sym l.groups) plan)
  ]

-- the same where the group's own instances are not told apart from none
pub stays_in : (core : CoreTerm) → IsWellFormed core → (es : List Entry) (gs : List (List ℕ)) → IsPlan core es gs → (group : ℕ) (own : List ℕ) → own ≡ group_at core group → (place : ℕ) → StandsIn own place → (forms : List Form)
    → (new : List Entry) (others : List (List ℕ)) → Serves own group forms es gs new others → IsPlan core new others
stays_in core well es gs plan group own e place s forms new others h =
    let w = group_there core group place (subst (λ ns. StandsIn ns place) e s) in
    stays core well es gs plan group own (w.1 ∙ ap Some (sym (group_is core group w.0 w.1) ∙ sym e)) forms new others h

-- entries stay where they are
pub keeps : (own : List ℕ) (group : ℕ) (forms : List Form) (es : List Entry) (gs : List (List ℕ)) (new : List Entry) (others : List (List ℕ)) → Serves own group forms es gs new others → Keeps es new
keeps own group forms es gs new others h n e q = elim h [
  | inl v ↦ ap (λ xs. slice_get xs n) v.entries ∙ still es (record { source = v.source; types = exact forms }) n e q
  | inr l ↦ ap (λ xs. slice_get xs n) l.entries ∙ q
]

-- an entry outside of all groups
pub with_entry : (core : CoreTerm) (es : List Entry) (gs : List (List ℕ)) (x : Entry) → IsPlan core es gs → IsEntry core x → IsPlan core (es ++ (x ∷ [])) gs
with_entry core es gs x plan is = record {
  own = λ place f e. still es x place _ (plan.own place f e);
  made = λ n e q. elim (before_or_last es x n e q) [ inl l ↦ plan.made n e l | inr r ↦ subst (IsEntry core) r is ];
  count = plan.count;
  groups = λ g places q.
      let h = plan.groups g places q in
      record {
        further = h.further;
        all = h.all;
        narrowed = λ n s. let w = h.narrowed n s in (w.0, (still es x n w.0 w.1.0, w.1.1));
        few = h.few;
        apart =
            pairs_weaker (LaterElsewhere es) (LaterElsewhere (es ++ (x ∷ []))) h.further
            (λ m n s t r d e ed ee.
            let u = h.narrowed m s in
            let w = h.narrowed n t in
            (λ i. all_below (some_same e w.0 (sym ee ∙ still es x n w.0 w.1.0) i).types (some_same d u.0 (sym ed ∙ still es x m u.0 u.1.0) i).types) ∙ r u.0 w.0 u.1.0 w.1.0) h.apart;
      };
}

-- the functions of a core are a plan
owns_at : (n : ℕ) (fs : List FunTerm) (i : ℕ) (f : FunTerm) → slice_get fs i ≡ Some f → slice_get (owns n fs) i ≡ Some (record { source = n + i; types = param_types f })
owns_at n [] i f e = absurd (none_some f e)
owns_at n (g ∷ fs) zero f e = ap Some (λ i. record { source = (let q : n ≡ n + 0 = omega arith in q) i; types = param_types (some_same g f e i) })
owns_at n (g ∷ fs) (suc i) f e = owns_at (suc n) fs i f e ∙ ap Some (λ j. record { source = (let q : suc n + i ≡ n + suc i = omega arith in q) j; types = param_types f })

owns_from : (n : ℕ) (fs : List FunTerm) (i : ℕ) (e : Entry) → slice_get (owns n fs) i ≡ Some e → (f : FunTerm) × ((slice_get fs i ≡ Some f) × (record { source = n + i; types = param_types f } ≡ e))
owns_from n [] i e h = absurd (none_some e h)
owns_from n (g ∷ fs) zero e h = (g, (refl, (λ i. record { source = (let q : n + 0 ≡ n = omega arith in q) i; types = param_types g }) ∙ some_same _ e h))
owns_from n (g ∷ fs) (suc i) e h =
    let w = owns_from (suc n) fs i e h in
    (w.0, (w.1.0, (λ j. record { source = (let q : n + suc i ≡ suc n + i = omega arith in q) j; types = param_types w.0 }) ∙ w.1.1))

pub first_plan : (core : CoreTerm) (es : List Entry) (gs : List (List ℕ)) → es ≡ owns 0 core.functions → gs ≡ core.groups → IsPlan core es gs
first_plan core es gs e g = record {
  own = λ place f q. ap (λ xs. slice_get xs place) e ∙ owns_at 0 core.functions place f q ∙ ap Some (λ i. record { source = (let r : 0 + place ≡ place = omega arith in r) i; types = param_types f });
  made = λ n x q.
      let w = owns_from 0 core.functions n x (ap (λ xs. slice_get xs n) (sym e) ∙ q) in
      record {
        function = w.0;
        there = ap (slice_get core.functions) (ap (λ (y : Entry). y.source) (sym w.1.1) ∙ (let r : 0 + n ≡ n = omega arith in r)) ∙ w.1.0;
        bases = ap (λ (y : Entry). bases_of y.types) w.1.1;
      };
  count = ap length g;
  groups = λ group places q. record {
    further = [];
    all = ap (λ xs. slice_get xs group) g ∙ q ∙ ap Some (sym (append-nil places));
    narrowed = λ n s. absurd s;
    apart = λ i j d l m. absurd (omega (arith, m));
    few = omega arith;
  };
}

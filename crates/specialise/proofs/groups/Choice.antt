-- Which instance a call takes.
use Rattle.std.proofs.Common.{◌≡◌, ℕ, ◌<◌, Bool, true, false, ◌||◌, not, List, [], ◌∷◌, ◌++◌, map, length, Option, Some, None, All, refl, sym, ap, subst, ◌∙◌, ◌⊎◌, inl, inr}
use Rattle.std.specs.Prelude.{slice_get, unwrap_or, AllPairs, if◌then◌else◌, option_map}
use Rattle.std.specs.List.{list_all}
use Rattle.std.proofs.lemmas.Bool.{false≢true}
use Rattle.sac_base.specs.Arrays.{ArrayValue}
use Rattle.sac_base.specs.Types.{all_have, all_below}
use Rattle.shape_types.proofs.Inclusion.{and_left, and_right, and_both}
use Rattle.core_ir.specs.Terms.{FunTerm, CoreTerm}
use Rattle.core_ir.specs.Outcome.{Instance, param_types, instance_of, instances, is_least, least_among, group_at, chosen}
use Rattle.core_ir.specs.WellFormed.{IsWellFormed, PlacesShare}
use Rattle.core_facts.specs.calls.Nests.{StandsIn}
use Rattle.specialise.specs.groups.Specialised.{IsNarrowed, IsSpecialised}
use Rattle.specialise.proofs.groups.Known.{all_below_of, all_have_of, clash}
use Rattle.specialise.proofs.groups.Lists.{some_same, none_some, stands_left, stands_right, stands_cases, stands_map, mapped_stands, related, none_either, some_within, all_found, all_at}

-- ---- tests of all instances

abbrev pub instance_at : ℕ → FunTerm → Instance
instance_at place f = record { place = place; types = param_types f }

passes : (test : Instance → Bool) (fs : List FunTerm) (places : List ℕ) (place : ℕ) (f : FunTerm) → list_all test (instances fs places) ≡ true → StandsIn places place → slice_get fs place ≡ Some f → test (instance_at place f) ≡ true
passes test fs [] place f h s e = absurd s
passes test fs (i ∷ is) place f h s e = elim s [
  | inl q ↦ ap (λ n. test (instance_at n f)) (sym q) ∙ head (slice_get fs i) (ap (slice_get fs) q ∙ e) h
  | inr r ↦ passes test fs is place f (rest (slice_get fs i) h) r e
]
  where
    head : (x : Option FunTerm) → x ≡ Some f → list_all test (instance_of i x ++ instances fs is) ≡ true → test (instance_at i f) ≡ true
    head None q g = absurd (none_some f q)
    head (Some k) q g = ap (λ m. test (instance_at i m)) (sym (some_same k f q)) ∙ and_left (test (instance_at i k)) (list_all test (instances fs is)) g

    rest : (x : Option FunTerm) → list_all test (instance_of i x ++ instances fs is) ≡ true → list_all test (instances fs is) ≡ true
    rest None g = g
    rest (Some k) g = and_right (test (instance_at i k)) (list_all test (instances fs is)) g

all_pass : (test : Instance → Bool) (fs : List FunTerm) (places : List ℕ) → ((place : ℕ) (f : FunTerm) → StandsIn places place → slice_get fs place ≡ Some f → test (instance_at place f) ≡ true) → list_all test (instances fs places) ≡ true
all_pass test fs [] h = refl
all_pass test fs (i ∷ is) h = go (slice_get fs i) refl (all_pass test fs is (λ place f s e. h place f (inr s) e))
  where
    go : (x : Option FunTerm) → slice_get fs i ≡ x → list_all test (instances fs is) ≡ true → list_all test (instance_of i x ++ instances fs is) ≡ true
    go None e rest = rest
    go (Some k) e rest = and_both (test (instance_at i k)) (list_all test (instances fs is)) (h i k (inl refl) e) rest

implied : (b c : Bool) → (not b || c) ≡ true → b ≡ true → c ≡ true
implied true c h e = h
implied false c h e = absurd (false≢true e)

implies : (b c : Bool) → (b ≡ true → c ≡ true) → (not b || c) ≡ true
implies true c h = h refl
implies false c h = refl

-- ---- the least instance

-- the function at a place of a group takes the arguments, and its types are below those of every other one that does
pub record IsLeast (core : CoreTerm) (group : ℕ) (args : List ArrayValue) (place : ℕ) (f : FunTerm) : Type 0 where
  pub stands : StandsIn (group_at core group) place
  pub there : slice_get core.functions place ≡ Some f
  pub fits : all_have (param_types f) args ≡ true
  pub least : (other : ℕ) (h : FunTerm) → StandsIn (group_at core group) other → slice_get core.functions other ≡ Some h →
      all_have (param_types h) args ≡ true → all_below (param_types f) (param_types h) ≡ true

abbrev pub Chosen : CoreTerm → ℕ → List ArrayValue → Option ℕ → Type 0
Chosen core group args None = (place : ℕ) (f : FunTerm) → IsLeast core group args place f → ⊥
Chosen core group args (Some place) = (f : FunTerm) × IsLeast core group args place f

module _ (core : CoreTerm) (group : ℕ) (args : List ArrayValue) where
  abbrev all : List Instance
  all = instances core.functions (group_at core group)

  from_test : (place : ℕ) (f : FunTerm) → StandsIn (group_at core group) place → slice_get core.functions place ≡ Some f → is_least all args (instance_at place f) ≡ true → IsLeast core group args place f
  from_test place f s e h = record {
    stands = s;
    there = e;
    fits = and_left (all_have (param_types f) args) _ h;
    least = λ other k t q fits.
        implied (all_have (param_types k) args) (all_below (param_types f) (param_types k))
        (passes (λ (j : Instance). not (all_have j.types args) || all_below (param_types f) j.types) core.functions (group_at core group) other k (and_right (all_have (param_types f) args) _ h) t q) fits;
  }

  to_test : (place : ℕ) (f : FunTerm) → IsLeast core group args place f → is_least all args (instance_at place f) ≡ true
  to_test place f l =
      and_both (all_have (param_types f) args) _ l.fits
      (all_pass (λ (j : Instance). not (all_have j.types args) || all_below (param_types f) j.types) core.functions (group_at core group)
      (λ other k t q. implies (all_have (param_types k) args) (all_below (param_types f) (param_types k)) (l.least other k t q)))

  found : (places : List ℕ) → ((place : ℕ) → StandsIn places place → StandsIn (group_at core group) place) → (place : ℕ) → least_among all args (instances core.functions places) ≡ Some place → (f : FunTerm) × IsLeast core group args place f
  found [] w place p = absurd (none_some place p)
  found (i ∷ is) w place p = go (slice_get core.functions i) refl p (λ q. found is (λ n s. w n (inr s)) place q)
    where
      go : (x : Option FunTerm) → slice_get core.functions i ≡ x → least_among all args (instance_of i x ++ instances core.functions is) ≡ Some place → (least_among all args (instances core.functions is) ≡ Some place → (f : FunTerm) × IsLeast core group args place f) → (f : FunTerm) × IsLeast core group args place f
      go None e q later = later q
      go (Some k) e q later = by (is_least all args (instance_at i k)) refl q
        where
          by : (t : Bool) → is_least all args (instance_at i k) ≡ t → (if t then Some i else least_among all args (instances core.functions is)) ≡ Some place → (f : FunTerm) × IsLeast core group args place f
          by true m n = (k, subst (λ z. IsLeast core group args z k) (some_same i place n) (from_test i k (w i (inl refl)) e m))
          by false m n = later n

  missed : (places : List ℕ) (place : ℕ) (f : FunTerm) → StandsIn places place → slice_get core.functions place ≡ Some f → is_least all args (instance_at place f) ≡ true → least_among all args (instances core.functions places) ≡ None → ⊥
  missed [] place f s e h p = s
  missed (i ∷ is) place f s e h p = go (slice_get core.functions i) refl p (λ r n. missed is place f r e h n)
    where
      go : (x : Option FunTerm) → slice_get core.functions i ≡ x → least_among all args (instance_of i x ++ instances core.functions is) ≡ None → (StandsIn is place → least_among all args (instances core.functions is) ≡ None → ⊥) → ⊥
      go None q n later = elim s [ inl z ↦ none_some f (sym q ∙ ap (slice_get core.functions) z ∙ e) | inr r ↦ later r n ]
      go (Some k) q n later = by (is_least all args (instance_at i k)) refl n
        where
          by : (t : Bool) → is_least all args (instance_at i k) ≡ t → (if t then Some i else least_among all args (instances core.functions is)) ≡ None → ⊥
          by true m o = none_some i (sym o)
          by false m o = elim s [
            | inl z ↦ false≢true (sym m ∙ (λ j. is_least all args (instance_at (z j) (some_same k f (sym q ∙ ap (slice_get core.functions) z ∙ e) j))) ∙ h)
            | inr r ↦ later r o
          ]

  pub decided : Chosen core group args (chosen core group args)
  decided = go (chosen core group args) refl
    where
      go : (o : Option ℕ) → chosen core group args ≡ o → Chosen core group args o
      go None e = λ place f l. missed (group_at core group) place f l.stands l.there (to_test place f l) e
      go (Some place) e = found (group_at core group) (λ n s. s) place e

-- ---- groups that are there

pub group_is : (core : CoreTerm) (group : ℕ) (places : List ℕ) → slice_get core.groups group ≡ Some places → group_at core group ≡ places
group_is core group places e = ap (λ o. unwrap_or o []) e

pub group_there : (core : CoreTerm) (group place : ℕ) → StandsIn (group_at core group) place → (places : List ℕ) × (slice_get core.groups group ≡ Some places)
group_there core group place s = go (slice_get core.groups group) refl s
  where
    go : (o : Option (List ℕ)) → slice_get core.groups group ≡ o → StandsIn (unwrap_or o []) place → (places : List ℕ) × (slice_get core.groups group ≡ Some places)
    go None e t = absurd t
    go (Some places) e t = (places, e)

module _ (core : CoreTerm) (well : IsWellFormed core) where
  -- a member of a group is the place of a function
  pub member : (group place : ℕ) → StandsIn (group_at core group) place → (f : FunTerm) × (slice_get core.functions place ≡ Some f)
  member group place s =
      let w = group_there core group place s in
      some_within core.functions place
      (all_at (λ n. n < length core.functions) w.0 place (all_found (λ (ns : List ℕ). All (λ n. n < length core.functions) ns) core.groups group w.0 well.groups w.1) (subst (λ ps. StandsIn ps place) (group_is core group w.0 w.1) s))

  -- two members of a group are one, or may share their name
  pub sharing : (group i j : ℕ) → StandsIn (group_at core group) i → StandsIn (group_at core group) j → (i ≡ j) ⊎ (PlacesShare core.functions i j ⊎ PlacesShare core.functions j i)
  sharing group i j s t =
      let w = group_there core group i s in
      let q = group_is core group w.0 w.1 in
      related (PlacesShare core.functions) w.0 i j (all_found (λ (ns : List ℕ). AllPairs (PlacesShare core.functions) ns) core.groups group w.0 well.names w.1) (subst (λ ps. StandsIn ps i) q s) (subst (λ ps. StandsIn ps j) q t)

  -- there is one least instance
  pub one_least : (group : ℕ) (args : List ArrayValue) (i j : ℕ) (f h : FunTerm) → IsLeast core group args i f → IsLeast core group args j h → i ≡ j
  one_least group args i j f h l m =
      let below = l.least j h m.stands m.there m.fits in
      let above = m.least i f l.stands l.there l.fits in
      elim (sharing group i j l.stands m.stands) [
        | inl e ↦ e
        | inr r ↦ elim r [
          | inl q ↦ absurd (false≢true (sym (clash (param_types f) (param_types h) below above) ∙ (q f h l.there m.there).types))
          | inr q ↦ absurd (false≢true (sym (clash (param_types h) (param_types f) above below) ∙ (q h f m.there l.there).types))
        ]
      ]

-- ---- groups with further instances

module _ (a b : CoreTerm) (well : IsWellFormed a) (s : IsSpecialised a b) where
  pub group_both : (group : ℕ) (places : List ℕ) → slice_get a.groups group ≡ Some places → group_at b group ≡ map s.at (group_at a group) ++ s.further group
  group_both group places e = group_is b group _ (s.groups group places e) ∙ (λ i. map s.at (sym (group_is a group places e) i) ++ s.further group)

  pub member_cases : (group place : ℕ) → StandsIn (group_at b group) place → ((n : ℕ) × (StandsIn (group_at a group) n × (s.at n ≡ place))) ⊎ StandsIn (s.further group) place
  member_cases group place t = go (slice_get a.groups group) refl
    where
      go : (o : Option (List ℕ)) → slice_get a.groups group ≡ o → ((n : ℕ) × (StandsIn (group_at a group) n × (s.at n ≡ place))) ⊎ StandsIn (s.further group) place
      go None e = absurd (subst (λ ps. StandsIn ps place) (ap (λ o. unwrap_or o []) (none_either a.groups b.groups group (sym s.count) e)) t)
      go (Some places) e =
          elim (stands_cases (map s.at (group_at a group)) (s.further group) place (subst (λ ps. StandsIn ps place) (group_both group places e) t)) [
            | inl l ↦ inl (mapped_stands s.at (group_at a group) place l)
            | inr r ↦ inr r
          ]

  pub stands_kept : (group n : ℕ) → StandsIn (group_at a group) n → StandsIn (group_at b group) (s.at n)
  stands_kept group n t =
      let w = group_there a group n t in
      subst (λ ps. StandsIn ps (s.at n)) (sym (group_both group w.0 w.1)) (stands_left (map s.at (group_at a group)) (s.further group) (s.at n) (stands_map s.at (group_at a group) n t))

  pub stands_further : (group n place : ℕ) → StandsIn (group_at a group) n → StandsIn (s.further group) place → StandsIn (group_at b group) place
  stands_further group n place t r =
      let w = group_there a group n t in
      subst (λ ps. StandsIn ps place) (sym (group_both group w.0 w.1)) (stands_right (map s.at (group_at a group)) (s.further group) place r)

  module _ (group : ℕ) (args : List ArrayValue) where
    -- the source of the least instance is the least of the first core
    pub down : (place : ℕ) (f : FunTerm) → IsLeast b group args place f → (h : FunTerm) × IsLeast a group args (s.of place) h
    down place f l = elim (member_cases group place l.stands) [
      | inl w ↦
          let h = member a well group w.0 w.1.0 in
          let k = s.kept w.0 h.0 h.1 in
          let same : f ≡ h.0 = some_same f h.0 (sym l.there ∙ ap (slice_get b.functions) (sym w.1.1) ∙ k.0) in (
            h.0,
            subst (λ n. IsLeast a group args n h.0) (sym k.1 ∙ ap s.of w.1.1) (record {
              stands = w.1.0;
              there = h.1;
              fits = ap (λ (g : FunTerm). all_have (param_types g) args) (sym same) ∙ l.fits;
              least = λ other g t q fits. ap (λ (x : FunTerm). all_below (param_types x) (param_types g)) (sym same) ∙ l.least (s.at other) g (stands_kept group other t) (s.kept other g q).0 fits;
            }),
          )
      | inr r ↦
          let w = s.instances group place r in
          let n = w.1.1 in
          let same : f ≡ w.0 = some_same f w.0 (sym l.there ∙ w.1.0) in
          let inside : all_have (param_types w.0) args ≡ true = ap (λ (g : FunTerm). all_have (param_types g) args) (sym same) ∙ l.fits in (
            n.function,
            record {
              stands = n.stands;
              there = n.there;
              fits = all_have_of (param_types w.0) (param_types n.function) args n.inside inside;
              least = λ other g t q fits. n.least other g t q (all_below_of (param_types w.0) (param_types g) args n.known inside fits);
            },
          )
    ]

    abbrev Taken : ℕ → Type 0
    Taken place = StandsIn (s.further group) place × ((g : FunTerm) × ((slice_get b.functions place ≡ Some g) × (all_have (param_types g) args ≡ true)))

    abbrev Refused : ℕ → Type 0
    Refused place = (g : FunTerm) → slice_get b.functions place ≡ Some g → all_have (param_types g) args ≡ true → ⊥

    look : (places : List ℕ) → ((n : ℕ) → StandsIn places n → StandsIn (s.further group) n) → ((n : ℕ) × Taken n) ⊎ ((n : ℕ) → StandsIn places n → Refused n)
    look [] w = inr (λ n t. absurd t)
    look (p ∷ ps) w = elim (look ps (λ n t. w n (inr t))) [
      | inl found ↦ inl found
      | inr none ↦
          let v = s.instances group p (w p (inl refl)) in
          by v.0 v.1.0 (all_have (param_types v.0) args) refl none
    ]
      where
        by : (g : FunTerm) → slice_get b.functions p ≡ Some g → (t : Bool) → all_have (param_types g) args ≡ t → ((n : ℕ) → StandsIn ps n → Refused n) → ((n : ℕ) × Taken n) ⊎ ((n : ℕ) → StandsIn (p ∷ ps) n → Refused n)
        by g e true q none = inl (p, (w p (inl refl), (g, (e, q))))
        by g e false q none = inr (λ n t. elim t [
          | inl z ↦ λ k f m. false≢true (sym q ∙ ap (λ (x : FunTerm). all_have (param_types x) args) (some_same g k (sym e ∙ ap (slice_get b.functions) z ∙ f)) ∙ m)
          | inr r ↦ none n r
        ])

    -- where there is a least instance in the first core, there is one in the second
    up : (place : ℕ) (h : FunTerm) → IsLeast a group args place h → (n : ℕ) × ((f : FunTerm) × IsLeast b group args n f)
    up place h l = elim (look (s.further group) (λ n t. t)) [
      | inl w ↦
          let v = s.instances group w.0 w.1.0 in
          let g = w.1.1.0 in
          let same : v.0 ≡ g = some_same v.0 g (sym v.1.0 ∙ w.1.1.1.0) in (
            w.0,
            (
              g,
              record {
                stands = stands_further group place w.0 l.stands w.1.0;
                there = w.1.1.1.0;
                fits = w.1.1.1.1;
                least = λ other k t q fits. all_below_of (param_types g) (param_types k) args (subst (λ (x : FunTerm). Rattle.specialise.specs.groups.Specialised.all_known (param_types x) ≡ true) same v.1.1.known) w.1.1.1.1 fits;
              },
            ),
          )
      | inr none ↦ (
        s.at place,
        (
          h,
          record {
            stands = stands_kept group place l.stands;
            there = (s.kept place h l.there).0;
            fits = l.fits;
            least = λ other k t q fits. others other k t q fits none;
          },
        ),
      )
    ]
      where
        others : (other : ℕ) (k : FunTerm) → StandsIn (group_at b group) other → slice_get b.functions other ≡ Some k → all_have (param_types k) args ≡ true → ((n : ℕ) → StandsIn (s.further group) n → Refused n) → all_below (param_types h) (param_types k) ≡ true
        others other k t q fits none = elim (member_cases group other t) [
          | inl w ↦
              let g = member a well group w.0 w.1.0 in
              let same : g.0 ≡ k = some_same g.0 k (sym (s.kept w.0 g.0 g.1).0 ∙ ap (slice_get b.functions) w.1.1 ∙ q) in
              l.least w.0 k w.1.0 (g.1 ∙ ap Some same) fits
          | inr r ↦ absurd (none other r k q fits)
        ]

    pub chosen_same : option_map s.of (chosen b group args) ≡ chosen a group args
    chosen_same = go (chosen b group args) (chosen a group args) (decided b group args) (decided a group args)
      where
        go : (x y : Option ℕ) → Chosen b group args x → Chosen a group args y → option_map s.of x ≡ y
        go None None v w = refl
        go None (Some n) v w = let u = up n w.0 w.1 in absurd (v u.0 u.1.0 u.1.1)
        go (Some p) None v w = let u = down p v.0 v.1 in absurd (w (s.of p) u.0 u.1)
        go (Some p) (Some n) v w = let u = down p v.0 v.1 in ap Some (one_least a well group args (s.of p) n u.0 w.0 u.1 w.1)

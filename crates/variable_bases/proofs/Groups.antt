-- The instances of groups, place after place.
use Rattle.std.proofs.Common.{◌≡◌, ℕ, zero, suc, ◌+◌, ◌<◌, ◌≤◌, ◌≢◌, eqb, Bool, true, false, List, [], ◌∷◌, ◌++◌, map, drop, length, get_or, Option, Some, None, inl, inr, refl, sym, ap, subst, ◌∙◌, arith, append_assoc, append-nil}
use Rattle.std.specs.Prelude.{slice_get, unwrap_or}
use Rattle.std.specs.Prelude.{option_map}
use Rattle.std.proofs.lemmas.Bool.{eqb-true, eq-eqb}
use Rattle.std.proofs.lemmas.List.{drop_more, at_drop_all, get_or_default}
use Rattle.std.proofs.lemmas.List.Elements.{Contains-append_left, Contains-push, Contains-push_cases}
use Rattle.std.proofs.lemmas.Option.{slice_get-map}
use Rattle.sac_base.specs.declared.base.Base.{Base}
use Rattle.core_ir.specs.declared.tree.Var.{Var}
use Rattle.core_ir.specs.declared.tree.CoreFun.{CoreFun}
use Rattle.core_ir.specs.Outcome.{param_types}
use Rattle.core_ir.specs.Terms.{FunTerm, CoreTerm}
use Rattle.core_ir.specs.View.{fun_term}
use Rattle.core_ir.specs.WellFormed.{GroupBases, bases}
use Rattle.variable_bases.specs.declared.signatures.Signature.{Signature}
use Rattle.variable_bases.specs.declared.table.BaseTable.{BaseTable}
use Rattle.variable_bases.specs.Instances.{HasSignature, HasPlaces, OnlyPlaces, StandsAt, AddsPlace}
use Rattle.variable_bases.specs.Table.{may_have, AllGive, Fits, NoneTakes, SomeGives}

-- ---- one more signature

pub more : (ss : List Signature) (one : Signature) (takes gives : List Base) → HasSignature ss takes gives → HasSignature (ss ++ one ∷ []) takes gives
more ss one takes gives h = (h.0, (Contains-append_left ss (one ∷ []) h.0 h.1.0, h.1.1, h.1.2))

pub place_added :
    (fs : List CoreFun) (place : ℕ) (f : CoreFun) (one : Signature) (ss : List Signature) → slice_get fs place ≡ Some f →
    one.takes.items ≡ bases (param_types (fun_term f)) → one.gives.items ≡ bases (fun_term f).results → AddsPlace (map fun_term fs) place ss (ss ++ one ∷ [])
place_added fs place f one ss found takes gives = record {
  keeps = more ss one;
  has = λ g at. let same : fun_term f ≡ g = ap (λ o. unwrap_or o g) (sym there ∙ at) in
      subst (λ (h : FunTerm). HasSignature (ss ++ one ∷ []) (bases (param_types h)) (bases h.results)) same (one, (Contains-push ss one, takes, gives));
  only = λ us ts h. elim (Contains-push_cases ss one h.0 h.1.0) [
    | inl c ↦ inl (h.0, (c, h.1.1, h.1.2))
    | inr e ↦ inr (fun_term f, (there, sym takes ∙ ap (λ (x : Signature). x.takes.items) e ∙ h.1.1, sym gives ∙ ap (λ (x : Signature). x.gives.items) e ∙ h.1.2))
  ];
}
  where
    there : slice_get (map fun_term fs) place ≡ Some (fun_term f)
    there = slice_get-map fun_term fs place ∙ ap (option_map fun_term) found

pub place_missing : (fs : List CoreFun) (place : ℕ) (ss : List Signature) → slice_get fs place ≡ None → AddsPlace (map fun_term fs) place ss ss
place_missing fs place ss none = record {
  keeps = λ takes gives h. h;
  has = λ f at. absurd (let z : ◌≡◌ {A = Option FunTerm} None (Some f) = sym (slice_get-map fun_term fs place ∙ ap (option_map fun_term) none) ∙ at in cc);
  only = λ takes gives h. inl h;
}

-- ---- the places of a group

pub record PlacesSoFar (fs : List FunTerm) (places : List ℕ) (i : ℕ) (ss : List Signature) : Type 0 where
  pub has : (k : ℕ) → k < i → (f : FunTerm) → slice_get fs (get_or places k 0) ≡ Some f → HasSignature ss (bases (param_types f)) (bases f.results)
  pub only : (takes gives : List Base) → HasSignature ss takes gives → (k : ℕ) × ((k < length places) × StandsAt fs (get_or places k 0) takes gives)

pub no_place : (fs : List FunTerm) (places : List ℕ) (ss : List Signature) → ss ≡ [] → PlacesSoFar fs places 0 ss
no_place fs places ss none = record {
  has = λ k low. absurd (omega (arith, low));
  only = λ takes gives h. absurd (let less = h.1.0.1 in let z : length ss ≡ 0 = ap length none in omega (arith, less, z));
}

pub next_place :
    (fs : List FunTerm) (places : List ℕ) (i place : ℕ) (before after : List Signature) → i < length places → place ≡ get_or places i place →
    PlacesSoFar fs places i before → AddsPlace fs place before after → PlacesSoFar fs places (i + 1) after
next_place fs places i place before after less is so_far adds = record {
  has = λ k low f at. go k low f at (eqb k i) refl;
  only = λ takes gives h. elim (adds.only takes gives h) [
    | inl old ↦ so_far.only takes gives old
    | inr new ↦ (i, (less, subst (λ n. StandsAt fs n takes gives) here new))
  ];
}
  where
    here : place ≡ get_or places i 0
    here = is ∙ get_or_default places i place 0 less

    go : (k : ℕ) → k < i + 1 → (f : FunTerm) → slice_get fs (get_or places k 0) ≡ Some f → (b : Bool) → eqb k i ≡ b → HasSignature after (bases (param_types f)) (bases f.results)
    go k low f at true e = adds.has f (subst (λ n. slice_get fs n ≡ Some f) (ap (λ j. get_or places j 0) (eqb-true k i e) ∙ sym here) at)
    go k low f at false e =
        adds.keeps (bases (param_types f)) (bases f.results) (so_far.has k (let other : k ≢ i = λ same. absurd (let z : true ≡ false = sym (eq-eqb k i same) ∙ e in cc) in omega (arith, low, other)) f at)

pub has_places : (fs : List FunTerm) (places : List ℕ) (i : ℕ) (ss : List Signature) → length places ≤ i → PlacesSoFar fs places i ss → HasPlaces fs places ss
has_places fs places i ss over so_far place f one at =
    so_far.has one.0 (omega (arith, one.1, over)) f (subst (λ n. slice_get fs n ≡ Some f) (sym one.2 ∙ get_or_default places one.0 place 0 one.1) at)

pub only_places : (fs : List FunTerm) (places : List ℕ) (i : ℕ) (ss : List Signature) → PlacesSoFar fs places i ss → OnlyPlaces fs places ss
only_places fs places i ss so_far takes gives h =
    let w = so_far.only takes gives h in
    (get_or places w.0 0, ((w.0, w.1.0, get_or_default places w.0 (get_or places w.0 0) 0 w.1.0), w.1.1))

-- ---- the groups of a core

abbrev pub ArePlaces : List FunTerm → List ℕ → List Signature → Type 0
ArePlaces fs places ss = HasPlaces fs places ss × OnlyPlaces fs places ss

abbrev pub AllPlaces : List FunTerm → List (List ℕ) → List (List Signature) → Type 0
AllPlaces fs [] [] = Unit {0}
AllPlaces fs (p ∷ ps) (s ∷ ss) = ArePlaces fs p s × AllPlaces fs ps ss
AllPlaces fs _ _ = ⊥

abbrev pub GroupsSoFar : List FunTerm → List (List ℕ) → ℕ → List (List Signature) → Type 0
GroupsSoFar fs groups i so_far = (rest : List (List Signature)) → AllPlaces fs (drop i groups) rest → AllPlaces fs groups (so_far ++ rest)

pub next_group :
    (fs : List FunTerm) (groups : List (List ℕ)) (i : ℕ) (group : List ℕ) (one : List Signature) (before : List (List Signature)) → i < length groups →
    group ≡ get_or groups i group → ArePlaces fs group one → GroupsSoFar fs groups i before → GroupsSoFar fs groups (i + 1) (before ++ one ∷ [])
next_group fs groups i group one before less is has so_far rest more =
    subst (λ xs. AllPlaces fs groups xs) (sym (append_assoc before (one ∷ []) rest)) (so_far (one ∷ rest)
    (subst (λ xs. AllPlaces fs xs (one ∷ rest)) (sym (drop_more groups i group less)) (subst (λ x. ArePlaces fs x one) is has, more)))

pub all_groups : (fs : List FunTerm) (groups : List (List ℕ)) (i : ℕ) (ss : List (List Signature)) → length groups ≤ i → GroupsSoFar fs groups i ss → AllPlaces fs groups ss
all_groups fs groups i ss over so_far =
    subst (λ xs. AllPlaces fs groups xs) (append-nil ss) (so_far [] (subst (λ (xs : List (List ℕ)). AllPlaces fs xs []) (sym (at_drop_all (λ (xs : List (List ℕ)). xs) groups i over)) tt))

pub group_found :
    (fs : List FunTerm) (groups : List (List ℕ)) (ss : List (List Signature)) → AllPlaces fs groups ss → (group : ℕ) (places : List ℕ) → slice_get groups group ≡ Some places →
    (instances : List Signature) × ((slice_get ss group ≡ Some instances) × ArePlaces fs places instances)
group_found fs [] ss all group places at = absurd (let z : ◌≡◌ {A = Option (List ℕ)} None (Some places) = at in cc)
group_found fs (p ∷ ps) [] all group places at = absurd all
group_found fs (p ∷ ps) (s ∷ ss) all zero places at = (s, (refl, subst (λ x. ArePlaces fs x s) (ap (λ o. unwrap_or o p) at) all.0))
group_found fs (p ∷ ps) (s ∷ ss) all (suc group) places at = group_found fs ps ss all.1 group places at

pub places_found :
    (fs : List FunTerm) (groups : List (List ℕ)) (ss : List (List Signature)) → AllPlaces fs groups ss → (group : ℕ) (instances : List Signature) → slice_get ss group ≡ Some instances →
    (places : List ℕ) × ((slice_get groups group ≡ Some places) × ArePlaces fs places instances)
places_found fs [] [] all group instances at = absurd (let z : ◌≡◌ {A = Option (List Signature)} None (Some instances) = at in cc)
places_found fs [] (s ∷ ss) all group instances at = absurd all
places_found fs (p ∷ ps) [] all group instances at = absurd all
places_found fs (p ∷ ps) (s ∷ ss) all zero instances at = (p, (refl, subst (λ x. ArePlaces fs p x) (ap (λ o. unwrap_or o s) at) all.0))
places_found fs (p ∷ ps) (s ∷ ss) all (suc group) instances at = places_found fs ps ss all.1 group instances at

-- ---- what they give

abbrev pub GiveSoFar : List Signature → ℕ → List Var → BaseTable → List Base → Type 0
GiveSoFar ss i args table gives = (k : ℕ) → k < i → (d : Signature) → may_have table args (get_or ss k d).takes.items ≡ true → (get_or ss k d).gives.items ≡ gives

pub all_gave : (ss : List Signature) (i : ℕ) (args : List Var) (table : BaseTable) (gives : List Base) → length ss ≤ i → GiveSoFar ss i args table gives → AllGive ss args table gives
all_gave ss i args table gives over so_far takes given h may =
    let at = h.1.0 in
    sym h.1.2 ∙ ap (λ (x : Signature). x.gives.items) (sym at.2)
    ∙ so_far at.0 (omega (arith, at.1, over)) h.0 (ap (λ (x : Signature). may_have table args x.takes.items) at.2 ∙ ap (λ ts. may_have table args ts) h.1.1 ∙ may)

pub next_gives :
    (ss : List Signature) (i : ℕ) (one : Signature) (args : List Var) (table : BaseTable) (gives : List Base) → i < length ss → one ≡ get_or ss i one →
    (may_have table args one.takes.items ≡ true → one.gives.items ≡ gives) → GiveSoFar ss i args table gives → GiveSoFar ss (i + 1) args table gives
next_gives ss i one args table gives less is this so_far k low d = go (eqb k i) refl
  where
    go : (b : Bool) → eqb k i ≡ b → may_have table args (get_or ss k d).takes.items ≡ true → (get_or ss k d).gives.items ≡ gives
    go true e = subst (λ (x : Signature). may_have table args x.takes.items ≡ true → x.gives.items ≡ gives) (sym (ap (λ j. get_or ss j d) (eqb-true k i e) ∙ get_or_default ss i d one less ∙ sym is)) this
    go false e = so_far k (let other : k ≢ i = λ same. absurd (let z : true ≡ false = sym (eq-eqb k i same) ∙ e in cc) in omega (arith, low, other)) d

pub group_gives :
    (groups : List (List Signature)) (group : ℕ) (ss : List Signature) (args : List Var) (table : BaseTable) (gives : List Base) → slice_get groups group ≡ Some ss →
    AllGive ss args table gives → (takes given : List Base) → (instances : List Signature) × ((slice_get groups group ≡ Some instances) × HasSignature instances takes given) →
    may_have table args takes ≡ true → given ≡ gives
group_gives groups group ss args table gives at all takes given h =
    all takes given (subst (λ xs. HasSignature xs takes given) (ap (λ o. unwrap_or o ss) (sym h.1.0 ∙ at)) h.1.1)

-- ---- look-ups

pub found_at : {A : Type 0} (xs : List A) (i : ℕ) (x : A) → i < length xs → x ≡ get_or xs i x → slice_get xs i ≡ Some x
found_at [] i x less is = absurd (omega (arith, less))
found_at (y ∷ ys) zero x less is = ap Some (sym is)
found_at (y ∷ ys) (suc i) x less is = found_at ys i x (omega (arith, less)) is

pub mapped_at : {A B : Type 0} (f : A → B) (xs : List A) (i : ℕ) (x : A) → i < length xs → x ≡ get_or xs i x → f x ≡ get_or (map f xs) i (f x)
mapped_at f [] i x less is = refl
mapped_at f (y ∷ ys) zero x less is = ap f is
mapped_at f (y ∷ ys) (suc i) x less is = mapped_at f ys i x (omega (arith, less)) is

pub found_mapped : {A B : Type 0} (f : A → B) (xs : List A) (i : ℕ) (x : A) → i < length xs → x ≡ get_or xs i x → slice_get (map f xs) i ≡ Some (f x)
found_mapped f xs i x less is = slice_get-map f xs i ∙ ap (option_map f) (found_at xs i x less is)

pub has_instances :
    (core : CoreTerm) (ss : List (List Signature)) → AllPlaces core.functions core.groups ss → (group : ℕ) (takes gives : List Base) → GroupBases core group takes gives →
    (instances : List Signature) × ((slice_get ss group ≡ Some instances) × HasSignature instances takes gives)
has_instances core ss all group takes gives (places, (place, (f, (at, one, found, is_taken, is_given)))) =
    let h = group_found core.functions core.groups ss all group places at in
    (h.0, (h.1.0, subst (λ us. HasSignature h.0 us gives) is_taken (subst (λ us. HasSignature h.0 (bases (param_types f)) us) is_given (h.1.1.0 place f one found))))

pub only_instances :
    (core : CoreTerm) (ss : List (List Signature)) → AllPlaces core.functions core.groups ss → (group : ℕ) (takes gives : List Base) →
    ((instances : List Signature) × ((slice_get ss group ≡ Some instances) × HasSignature instances takes gives)) → GroupBases core group takes gives
only_instances core ss all group takes gives one =
    let w = places_found core.functions core.groups ss all group one.0 one.1.0 in
    let h = w.1.1.1 takes gives one.1.1 in
    (w.0, (h.0, (h.1.1.0, (w.1.0, h.1.0, h.1.1.1.0, h.1.1.1.1, h.1.1.1.2))))

-- ---- where none gives what the first does

-- a signature that may take the variables and gives other bases than the first
pub some_gives :
    (ss : List Signature) (one : Signature) (i : ℕ) (args : List Var) (table : BaseTable) (gives : List Base) → i < length ss → one ≡ get_or ss i one →
    may_have table args one.takes.items ≡ true → (one.gives.items ≡ gives → ⊥) → SomeGives ss args table gives
some_gives ss one i args table gives less is may other = (one.takes.items, (one.gives.items, ((one, ((i, less, sym is), refl, refl)), may, other)))

pub none_gives :
    (groups : List (List Signature)) (group : ℕ) (args : List Var) (table : BaseTable) (takes gives : List Base) → slice_get groups group ≡ None →
    ((instances : List Signature) × ((slice_get groups group ≡ Some instances) × HasSignature instances takes gives)) → ⊥
none_gives groups group args table takes gives none h = let z : ◌≡◌ {A = Option (List Signature)} None (Some h.0) = sym none ∙ h.1.0 in cc

-- ---- the first that may take the variables

abbrev pub NoneSoFar : List Signature → ℕ → List Var → BaseTable → Type 0
NoneSoFar ss i args table = (k : ℕ) → k < i → (d : Signature) → may_have table args (get_or ss k d).takes.items ≡ false

pub none_next : (ss : List Signature) (i : ℕ) (one : Signature) (args : List Var) (table : BaseTable) → i < length ss → one ≡ get_or ss i one → may_have table args one.takes.items ≡ false
    → NoneSoFar ss i args table → NoneSoFar ss (i + 1) args table
none_next ss i one args table less is not so_far k low d = go (eqb k i) refl
  where
    go : (b : Bool) → eqb k i ≡ b → may_have table args (get_or ss k d).takes.items ≡ false
    go true e = subst (λ (x : Signature). may_have table args x.takes.items ≡ false) (sym (ap (λ j. get_or ss j d) (eqb-true k i e) ∙ get_or_default ss i d one less ∙ sym is)) not
    go false e = so_far k (let other : k ≢ i = λ same. absurd (let z : true ≡ false = sym (eq-eqb k i same) ∙ e in cc) in omega (arith, low, other)) d

pub none_takes : (ss : List Signature) (i : ℕ) (args : List Var) (table : BaseTable) → length ss ≤ i → NoneSoFar ss i args table → NoneTakes ss args table
none_takes ss i args table over so_far takes given h may =
    let at = h.1.0 in
    let not : may_have table args takes ≡ false = ap (may_have table args) (sym h.1.1) ∙ ap (λ (x : Signature). may_have table args x.takes.items) (sym at.2) ∙ so_far at.0 (omega (arith, at.1, over)) h.0 in
    absurd (let z : true ≡ false = sym may ∙ not in cc)

pub group_none : (groups : List (List Signature)) (group : ℕ) (ss : List Signature) (args : List Var) (table : BaseTable) (takes given : List Base) → slice_get groups group ≡ Some ss → NoneTakes ss args table
    → ((instances : List Signature) × ((slice_get groups group ≡ Some instances) × HasSignature instances takes given)) → may_have table args takes ≡ true → ⊥
group_none groups group ss args table takes given at none h may = none takes given (subst (λ xs. HasSignature xs takes given) (ap (λ o. unwrap_or o ss) (sym h.1.0 ∙ at)) h.1.1) may

-- two that give different bases
pub group_two : (groups : List (List Signature)) (group : ℕ) (ss : List Signature) (first : Signature) (args : List Var) (table : BaseTable) (gives : List Base) → slice_get groups group ≡ Some ss → Fits ss args table first
    → SomeGives ss args table first.gives.items
    → ((others given : List Base) → (instances : List Signature) × ((slice_get groups group ≡ Some instances) × HasSignature instances others given) → may_have table args others ≡ true → given ≡ gives) → ⊥
group_two groups group ss first args table gives at fits other same =
    let one = same first.takes.items first.gives.items (ss, (at, (first, (fits.0, refl, refl)))) fits.1 in
    let two = same other.0 other.1.0 (ss, (at, other.1.1.0)) other.1.1.1 in
    other.1.1.2 (two ∙ sym one)

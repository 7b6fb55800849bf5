-- Members of lists of places, and what stands at them.
use Rattle.std.proofs.Common.{◌≡◌, ℕ, zero, suc, ◌<◌, List, [], ◌∷◌, ◌++◌, map, length, get_or, Option, Some, None, All, refl, sym, ap, subst, ◌∙◌, arith, ◌⊎◌, inl, inr}
use Rattle.std.specs.Prelude.{slice_get, unwrap_or, AllPairs, Contains}
use Rattle.std.proofs.lemmas.List.Elements.{All-nil, All-cons, All-append}
use Rattle.std.proofs.lemmas.List.Kept.{AllPairs-cons}
use Rattle.std.proofs.lemmas.Option.{slice_get_within, slice_get-get_or, get_or_from_slice_get}
use Rattle.core_facts.specs.calls.Nests.{StandsIn}

pub some_same : {A : Type 0} (x y : A) → ◌≡◌ {A = Option A} (Some x) (Some y) → x ≡ y
some_same x y p = ap (λ o. unwrap_or o x) p

pub none_some : {A : Type 0} (y : A) → ◌≡◌ {A = Option A} None (Some y) → ⊥
none_some y p = let q : ◌≡◌ {A = Option _} None (Some y) = p in cc

-- ---- members

pub stands_left : (ms ns : List ℕ) (n : ℕ) → StandsIn ms n → StandsIn (ms ++ ns) n
stands_left [] ns n s = absurd s
stands_left (m ∷ ms) ns n s = elim s [ inl e ↦ inl e | inr r ↦ inr (stands_left ms ns n r) ]

pub stands_right : (ms ns : List ℕ) (n : ℕ) → StandsIn ns n → StandsIn (ms ++ ns) n
stands_right [] ns n s = s
stands_right (m ∷ ms) ns n s = inr (stands_right ms ns n s)

pub stands_cases : (ms ns : List ℕ) (n : ℕ) → StandsIn (ms ++ ns) n → StandsIn ms n ⊎ StandsIn ns n
stands_cases [] ns n s = inr s
stands_cases (m ∷ ms) ns n s = elim s [
  | inl e ↦ inl (inl e)
  | inr r ↦ elim (stands_cases ms ns n r) [ inl l ↦ inl (inr l) | inr l ↦ inr l ]
]

pub stands_map : (f : ℕ → ℕ) (ns : List ℕ) (n : ℕ) → StandsIn ns n → StandsIn (map f ns) (f n)
stands_map f [] n s = absurd s
stands_map f (m ∷ ns) n s = elim s [ inl e ↦ inl (ap f e) | inr r ↦ inr (stands_map f ns n r) ]

pub mapped_stands : (f : ℕ → ℕ) (ns : List ℕ) (m : ℕ) → StandsIn (map f ns) m → (n : ℕ) × (StandsIn ns n × (f n ≡ m))
mapped_stands f [] m s = absurd s
mapped_stands f (n ∷ ns) m s = elim s [
  | inl e ↦ (n, (inl refl, e))
  | inr r ↦ let w = mapped_stands f ns m r in (w.0, (inr w.1.0, w.1.1))
]

pub stands_contained : (ns : List ℕ) (n : ℕ) → Contains ns n → StandsIn ns n
stands_contained ns n c = go ns c.0 c.1 (get_or_any ns c.0 c.1 ∙ c.2)
  where
    get_or_any : (ns : List ℕ) (i : ℕ) → i < length ns → get_or ns i 0 ≡ get_or ns i n
    get_or_any [] i h = absurd (omega (arith, h))
    get_or_any (m ∷ ns) zero h = refl
    get_or_any (m ∷ ns) (suc i) h = get_or_any ns i (omega (arith, h))

    go : (ns : List ℕ) (i : ℕ) → i < length ns → get_or ns i 0 ≡ n → StandsIn ns n
    go [] i h e = absurd (omega (arith, h))
    go (m ∷ ns) zero h e = inl e
    go (m ∷ ns) (suc i) h e = inr (go ns i (omega (arith, h)) e)

pub contained_stands : (ns : List ℕ) (n : ℕ) → StandsIn ns n → Contains ns n
contained_stands [] n s = absurd s
contained_stands (m ∷ ns) n s = elim s [
  | inl e ↦ (0, omega arith, e)
  | inr r ↦ let w = contained_stands ns n r in (suc w.0, omega (arith, w.1), w.2)
]

-- where a member stands
pub stands_at : (ns : List ℕ) (n : ℕ) → StandsIn ns n → (i : ℕ) × (i < length ns) × (get_or ns i 0 ≡ n)
stands_at [] n s = absurd s
stands_at (m ∷ ns) n s = elim s [
  | inl e ↦ (0, omega arith, e)
  | inr r ↦ let w = stands_at ns n r in (suc w.0, omega (arith, w.1), w.2)
]

pub stands_there : (ns : List ℕ) (i : ℕ) → i < length ns → StandsIn ns (get_or ns i 0)
stands_there [] i h = absurd (omega (arith, h))
stands_there (m ∷ ns) zero h = inl refl
stands_there (m ∷ ns) (suc i) h = inr (stands_there ns i (omega (arith, h)))

-- what holds of all members
pub all_by : (P : ℕ → Type 0) (ns : List ℕ) → ((n : ℕ) → StandsIn ns n → P n) → All P ns
all_by P [] h = All-nil P
all_by P (n ∷ ns) h = All-cons P n ns (h n (inl refl)) (all_by P ns (λ m s. h m (inr s)))

pub all_at : (P : ℕ → Type 0) (ns : List ℕ) (n : ℕ) → All P ns → StandsIn ns n → P n
all_at P ns n h s = let w = stands_at ns n s in subst P w.2 (h w.0 0 w.1)

cases : (i j : ℕ) → (i ≡ j) ⊎ ((i < j) ⊎ (j < i))
cases zero zero = inl refl
cases zero (suc j) = inr (inl (omega arith))
cases (suc i) zero = inr (inr (omega arith))
cases (suc i) (suc j) = elim (cases i j) [
  | inl e ↦ inl (ap suc e)
  | inr r ↦ elim r [ inl l ↦ inr (inl (omega (arith, l))) | inr l ↦ inr (inr (omega (arith, l))) ]
]

-- two members are the same, or related one way or the other
pub related : (R : ℕ → ℕ → Type 0) (ns : List ℕ) (m n : ℕ) → AllPairs R ns → StandsIn ns m → StandsIn ns n → (m ≡ n) ⊎ (R m n ⊎ R n m)
related R ns m n pairs s t =
    let v = stands_at ns m s in
    let w = stands_at ns n t in
    elim (cases v.0 w.0) [
      | inl e ↦ inl (sym v.2 ∙ ap (λ k. get_or ns k 0) e ∙ w.2)
      | inr r ↦ elim r [
        | inl l ↦ inr (inl (subst (λ x. R x n) v.2 (subst (R (get_or ns v.0 0)) w.2 (pairs v.0 w.0 0 l w.1))))
        | inr l ↦ inr (inr (subst (λ x. R x m) w.2 (subst (R (get_or ns w.0 0)) v.2 (pairs w.0 v.0 0 l v.1))))
      ]
    ]

pub pairs_tail : (R : ℕ → ℕ → Type 0) (n : ℕ) (ns : List ℕ) → AllPairs R (n ∷ ns) → AllPairs R ns
pairs_tail R n ns h i j d l m = h (suc i) (suc j) d (omega (arith, l)) (omega (arith, m))

pub pairs_head : (R : ℕ → ℕ → Type 0) (n : ℕ) (ns : List ℕ) → AllPairs R (n ∷ ns) → All (R n) ns
pairs_head R n ns h j d m = h 0 (suc j) d (omega arith) (omega (arith, m))

-- pairs of two lists, one behind the other
pub pairs_append : (R : ℕ → ℕ → Type 0) (ms ns : List ℕ) → AllPairs R ms → AllPairs R ns → ((m n : ℕ) → StandsIn ms m → StandsIn ns n → R m n) → AllPairs R (ms ++ ns)
pairs_append R [] ns h g c = g
pairs_append R (m ∷ ms) ns h g c =
    AllPairs-cons R m (ms ++ ns) (All-append (R m) ms ns (pairs_head R m ms h) (all_by (R m) ns (λ n s. c m n (inl refl) s)))
    (pairs_append R ms ns (pairs_tail R m ms h) g (λ k n s t. c k n (inr s) t))

-- pairs of another relation
pub pairs_map : (R S : ℕ → ℕ → Type 0) (f : ℕ → ℕ) (ns : List ℕ) → ((m n : ℕ) → StandsIn ns m → StandsIn ns n → R m n → S (f m) (f n)) → AllPairs R ns → AllPairs S (map f ns)
pairs_map R S f [] w h = λ i j d l m. absurd (omega (arith, m))
pairs_map R S f (n ∷ ns) w h =
    AllPairs-cons S (f n) (map f ns)
    (all_by (S (f n)) (map f ns) (λ m s. let v = mapped_stands f ns m s in subst (S (f n)) v.1.1 (w n v.0 (inl refl) (inr v.1.0) (all_at (R n) ns v.0 (pairs_head R n ns h) v.1.0))))
    (pairs_map R S f ns (λ m k s t r. w m k (inr s) (inr t) r) (pairs_tail R n ns h))

pub pairs_weaker : (R S : ℕ → ℕ → Type 0) (ns : List ℕ) → ((m n : ℕ) → StandsIn ns m → StandsIn ns n → R m n → S m n) → AllPairs R ns → AllPairs S ns
pairs_weaker R S [] w h = λ i j d l m. absurd (omega (arith, m))
pairs_weaker R S (n ∷ ns) w h =
    AllPairs-cons S n ns (all_by (S n) ns (λ m s. w n m (inl refl) (inr s) (all_at (R n) ns m (pairs_head R n ns h) s)))
    (pairs_weaker R S ns (λ m k s t r. w m k (inr s) (inr t) r) (pairs_tail R n ns h))

-- ---- lists that are equally long

nothing_inside : {A : Type 0} (zs : List A) (k : ℕ) → k < length zs → slice_get zs k ≡ None → ⊥
nothing_inside [] k m q = omega (arith, m)
nothing_inside (z ∷ zs) zero m q = none_some z (sym q)
nothing_inside (z ∷ zs) (suc k) m q = nothing_inside zs k (omega (arith, m)) q

pub none_either : {A B : Type 0} (xs : List A) (ys : List B) (i : ℕ) → length xs ≡ length ys → slice_get xs i ≡ None → slice_get ys i ≡ None
none_either {A} {B} xs ys i l e = go (slice_get ys i) refl
  where
    go : (o : Option B) → slice_get ys i ≡ o → slice_get ys i ≡ None
    go None h = h
    go (Some y) h = let lt = slice_get_within ys i y h in absurd (nothing_inside xs i (omega (arith, lt, l)) e)

pub some_within : {A : Type 0} (xs : List A) (i : ℕ) → i < length xs → (x : A) × (slice_get xs i ≡ Some x)
some_within [] i h = absurd (omega (arith, h))
some_within (x ∷ xs) zero h = (x, refl)
some_within (x ∷ xs) (suc i) h = some_within xs i (omega (arith, h))

pub all_found : {A : Type 0} (P : A → Type 0) (xs : List A) (i : ℕ) (x : A) → All P xs → slice_get xs i ≡ Some x → P x
all_found P xs i x h e = subst P (get_or_from_slice_get xs i x x e) (h i x (slice_get_within xs i x e))

pub all_by_place : {A : Type 0} (P : A → Type 0) (xs : List A) → ((i : ℕ) (x : A) → slice_get xs i ≡ Some x → P x) → All P xs
all_by_place P xs h i d l = h i (get_or xs i d) (slice_get-get_or xs i d l)

-- A heap's value after one of its places has changed.
use Rattle.std.proofs.Common.{◌≡◌, ◌≢◌, ℕ, zero, suc, ◌+◌, ◌-◌, ◌<◌, ◌%◌, ◌^◌, List, [], ◌∷◌, map, length, refl, ap, ◌∙◌, sym, subst, Option, Some, None, slice_index_or, slice_set, arith, Vec, Global, ℤ, lt_irrefl}
use Rattle.std.specs.Prelude.{IsSomeAnd}
use Rattle.std.proofs.lemmas.List.{map-set, get_or-map, get_or-set_same, get_or-set_other}
use Rattle.buffer_heap.specs.declared.heap.Place.{Place}
use Rattle.buffer_heap.specs.declared.heap.Heap.TheInside.{Inside}
use Rattle.buffer_heap.specs.Heaps.{Content, In, Out, Held, HeapValue, at, IsLive, IsIn, IsInAndSole, len_of, with_place, with_count, with_content, count_of, content_of, released, released_at}
use Rattle.buffer_heap.specs.Places.{held_of, held_as, content_unless}

absurd_below : {A : Type 0} → 0 < 0 → A
absurd_below below = elim (lt_irrefl 0 below) [ ]

-- a place with so many references and such a content, and what becomes of it

more_as : (b n : ℕ) (x : Content) (M : Held → Type 0) → IsSomeAnd (held_as b n x) M → held_as b (n + 1) x ≡ with_count (held_as b n x) (count_of (held_as b n x) + 1)
more_as b zero x M live = elim live [ ]
more_as b (suc n) x M live =
    let next : suc n + 1 ≡ suc (suc n) = omega arith in
    ap (λ m. held_as b m x) next ∙ ap {B = Option Held} (λ m. Some (record { born = b; count = m; content = x })) (sym next)

less_as : (b n : ℕ) (x : Content) → 0 < n - 1 → held_as b (n - 1) x ≡ with_count (held_as b n x) (count_of (held_as b n x) - 1)
less_as b zero x more = absurd_below more
less_as b (suc zero) x more = absurd_below more
less_as b (suc (suc n)) x more =
    let next : suc (suc n) - 1 ≡ suc n = omega arith in
    ap (λ m. held_as b m x) next ∙ ap {B = Option Held} (λ m. Some (record { born = b; count = m; content = x })) (sym next)

content_as : (b n : ℕ) (x y : Content) (M : Held → Type 0) → IsSomeAnd (held_as b n x) M → held_as b n y ≡ with_content (held_as b n x) y
content_as b zero x y M live = elim live [ ]
content_as b (suc n) x y M live = refl

count_as : (b n : ℕ) (x : Content) → count_of (held_as b n x) ≡ n
count_as b zero x = refl
count_as b (suc n) x = refl

positive_as : (b n : ℕ) (x : Content) (M : Held → Type 0) → IsSomeAnd (held_as b n x) M → 0 < n
positive_as b zero x M live = elim live [ ]
positive_as b (suc n) x M live = omega arith

in_as : (b n : ℕ) (len : Option ℕ) (cells : List ℤ) (M : Held → Type 0) → ((x : Held) → M x → IsIn x) → IsSomeAnd (held_as b n (content_unless len cells)) M → content_of (held_as b n (content_unless len cells)) ≡ In cells
in_as b zero len cells M is_in live = elim live [ ]
in_as b (suc n) None cells M is_in live = refl
in_as b (suc n) (Some len) cells M is_in live = elim (is_in _ live) [ ]

pub more_there : (p : Place) (M : Held → Type 0) → IsSomeAnd (held_of p) M → held_of (record p { count = p.count + 1 }) ≡ with_count (held_of p) (count_of (held_of p) + 1)
more_there p M = more_as p.born p.count (content_unless p.out_len p.cells.items) M

-- cells that are taken back
pub settled_there : (p : Place) (cells : Vec ℤ Global) (M : Held → Type 0) → IsSomeAnd (held_of p) M → held_of (record p { cells = cells; out_len = None }) ≡ with_content (held_of p) (In cells.items)
settled_there p cells M = content_as p.born p.count (content_unless p.out_len p.cells.items) (In cells.items) M

pub in_there : (p : Place) (M : Held → Type 0) → ((x : Held) → M x → IsIn x) → IsSomeAnd (held_of p) M → content_of (held_of p) ≡ In p.cells.items
in_there p M is_in live = in_as p.born p.count p.out_len p.cells.items M is_in live

-- cells that are handed out
pub lifted_there : (p : Place) (cells : Vec ℤ Global) (n : ℕ) (M : Held → Type 0) → ((x : Held) → M x → IsIn x) → n ≡ length p.cells.items → IsSomeAnd (held_of p) M → held_of (record p { cells = cells; out_len = Some n }) ≡ with_content (held_of p) (Out (len_of (content_of (held_of p))))
lifted_there p cells n M is_in len live =
    content_as p.born p.count (content_unless p.out_len p.cells.items) (Out n) M live
    ∙ ap (λ m. with_content (held_of p) (Out m)) (len ∙ sym (ap len_of (in_there p M is_in live)))

count_there : (p : Place) → count_of (held_of p) ≡ p.count
count_there p = count_as p.born p.count (content_unless p.out_len p.cells.items)

sole_count : (o : Option Held) → IsSomeAnd o IsInAndSole → count_of o ≡ 1
sole_count None live = elim live [ ]
sole_count (Some x) live = live.1

pub sole_there : (p : Place) → IsSomeAnd (held_of p) IsInAndSole → p.count ≡ 1
sole_there p live = sym (count_there p) ∙ sole_count (held_of p) live

pub positive_there : (p : Place) (M : Held → Type 0) → IsSomeAnd (held_of p) M → 0 < p.count
positive_there p M = positive_as p.born p.count (content_unless p.out_len p.cells.items) M

-- the heap of these places, with the counters of another
abbrev pub with_places : Inside → List Place → HeapValue
with_places a ps = record { places = map held_of ps; births = a.births; taken = a.taken; given = a.given; reused = a.reused }

-- a place with a buffer is in range
in_range : (ps : List Place) (b : ℕ) (M : Held → Type 0) → IsSomeAnd (slice_index_or (map held_of ps) b None) M → b < length ps
in_range [] b M live = elim live [ ]
in_range (p ∷ ps) zero M live = omega arith
in_range (p ∷ ps) (suc b) M live = omega (arith, in_range ps b M live)

-- a heap of these fields has at place b what p shows
pub record Shows (a : Inside) (h : HeapValue) (b : ℕ) (p : Place) (M : Held → Type 0) : Type 0 where
  pub view : with_places a a.places.items ≡ h
  pub is : p ≡ slice_index_or a.places.items b p
  pub live : IsLive h b M

pub below : (a : Inside) (h : HeapValue) (b : ℕ) (p : Place) (M : Held → Type 0) → Shows a h b p M → b < length a.places.items
below a h b p M s = in_range a.places.items b M (subst (λ x. IsLive x b M) (sym s.view) s.live)

pub there : (a : Inside) (h : HeapValue) (b : ℕ) (p : Place) (M : Held → Type 0) → Shows a h b p M → at h b ≡ held_of p
there a h b p M s =
    ap (λ x. at x b) (sym s.view)
    ∙ get_or-map held_of a.places.items b p None (below a h b p M s)
    ∙ ap held_of (sym s.is)

pub live_there : (a : Inside) (h : HeapValue) (b : ℕ) (p : Place) (M : Held → Type 0) → Shows a h b p M → IsSomeAnd (held_of p) M
live_there a h b p M s = subst (λ x. IsSomeAnd x M) (there a h b p M s) s.live

-- the place b had p and now has q
pub changed : (f : Option Held → Option Held) (a : Inside) (h : HeapValue) (b : ℕ) (p q : Place) (M : Held → Type 0) → Shows a h b p M → held_of q ≡ f (held_of p) → with_places a (slice_set a.places.items b q) ≡ with_place h b (f (at h b))
changed f a h b p q M s to =
    (λ i. record { places = map-set held_of a.places.items b q i; births = a.births; taken = a.taken; given = a.given; reused = a.reused })
    ∙ (λ i. with_place (s.view i) b (to i))
    ∙ ap (λ x. with_place h b (f x)) (sym (there a h b p M s))

released_more : (n : ℕ) (h : HeapValue) (b : ℕ) → 0 < n - 1 → released_at n h b ≡ with_place h b (with_count (at h b) (n - 1))
released_more zero h b more = absurd_below more
released_more (suc zero) h b more = absurd_below more
released_more (suc (suc n)) h b more =
    let next : suc (suc n) - 1 ≡ suc n = omega arith in
    ap (λ m. with_place h b (with_count (at h b) m)) (sym next)

count_here : (a : Inside) (h : HeapValue) (b : ℕ) (p : Place) (M : Held → Type 0) → Shows a h b p M → count_of (at h b) ≡ p.count
count_here a h b p M s = ap count_of (there a h b p M s) ∙ count_there p

-- one reference less, and more are left
pub released_one : (a : Inside) (h : HeapValue) (b : ℕ) (p : Place) (M : Held → Type 0) → Shows a h b p M → 0 < p.count - 1 → with_places a (slice_set a.places.items b (record p { count = p.count - 1 })) ≡ released h b
released_one a h b p M s more =
    changed (λ x. with_count x (count_of x - 1)) a h b p (record p { count = p.count - 1 }) M s (less_as p.born p.count (content_unless p.out_len p.cells.items) more)
    ∙ sym (released_more (count_of (at h b)) h b (subst (λ n. 0 < n - 1) (sym (count_here a h b p M s)) more))

-- the last reference less
pub released_last : (a : Inside) (h : HeapValue) (b : ℕ) (p q : Place) (M : Held → Type 0) → Shows a h b p M → p.count ≡ 1 → q.count ≡ 0 → record (with_places a (slice_set a.places.items b q)) { given = (a.given + 1) % 2 ^ 64 } ≡ released h b
released_last a h b p q M s one gone =
    ap {A = HeapValue} (λ x. record x { given = (a.given + 1) % 2 ^ 64 }) (changed (λ x. None) a h b p q M s (ap (λ n. held_as q.born n (content_unless q.out_len q.cells.items)) gone))
    ∙ ap (λ x. record (with_place h b None) { given = (x.given + 1) % 2 ^ 64 }) s.view
    ∙ ap (λ n. released_at n h b) (sym (count_here a h b p M s ∙ one))

pub map_length : (ps : List Place) → length (map held_of ps) ≡ length ps
map_length [] = refl
map_length (p ∷ ps) = ap suc (map_length ps)

-- a buffer at a place that had none
pub stored : (a : Inside) (b : ℕ) (q : Place) → b < length a.places.items → at (with_places a (slice_set a.places.items b q)) b ≡ held_of q
stored a b q in_places =
    ap (λ xs. slice_index_or xs b None) (map-set held_of a.places.items b q)
    ∙ get_or-set_same (map held_of a.places.items) b (held_of q) None (subst (λ n. b < n) (sym (map_length a.places.items)) in_places)

pub stored_others : (a : Inside) (h : HeapValue) (b : ℕ) (q : Place) → with_places a a.places.items ≡ h → (c : ℕ) → c ≢ b → at (with_places a (slice_set a.places.items b q)) c ≡ at h c
stored_others a h b q e c other =
    ap (λ xs. slice_index_or xs c None) (map-set held_of a.places.items b q)
    ∙ get_or-set_other (map held_of a.places.items) b c (held_of q) None other
    ∙ ap (λ x. at x c) e

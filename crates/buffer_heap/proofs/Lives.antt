-- How many buffers are live, and that each one that was taken was given back or is live.
use Rattle.std.proofs.Common.{◌≡◌, ℕ, zero, suc, ◌+◌, ◌<◌, ◌%◌, ◌^◌, List, [], ◌∷◌, ◌++◌, map, length, refl, ap, ◌∙◌, sym, subst, cond, Option, Some, None, slice_index_or, slice_set, arith}
use Rattle.std.specs.Prelude.{count_by, is_some}
use Rattle.std.proofs.lemmas.List.{map-set, get_or-map}
use Rattle.std.proofs.lemmas.List.Sums.{sum_by-cons}
use Rattle.std.proofs.Math.Nat.{mod-add-mod}
use Rattle.buffer_heap.specs.declared.heap.Place.{Place}
use Rattle.buffer_heap.specs.declared.heap.Heap.TheInside.{Inside}
use Rattle.buffer_heap.specs.Heaps.{Content, Held, HeapValue, at}
use Rattle.buffer_heap.specs.Places.{held_of, held_as, content_unless}
use Rattle.buffer_heap.proofs.Places.{Shows, below, there, map_length}

none_in : (ps : List (Option Held)) → ((b : ℕ) → slice_index_or ps b None ≡ None) → count_by is_some ps ≡ 0
none_in [] vacant = refl
none_in (p ∷ ps) vacant = rw (vacant 0) (none_in ps (λ b. vacant (suc b)))

-- a heap where no place has a buffer has no live buffer
pub none_live : (h : HeapValue) → ((b : ℕ) → at h b ≡ None) → count_by is_some h.places ≡ 0
none_live h vacant = none_in h.places vacant

-- ---- one place changes

abbrev one : Option Held → ℕ
one None = 0
one (Some x) = 1

one_is : (o : Option Held) → cond {A = ℕ} (is_some o) 1 0 ≡ one o
one_is None = refl
one_is (Some x) = refl

abbrev lives : List (Option Held) → ℕ
lives [] = 0
lives (o ∷ os) = one o + lives os

lives_is : (os : List (Option Held)) → count_by is_some os ≡ lives os
lives_is [] = refl
lives_is (o ∷ os) =
    sum_by-cons (λ (x : Option Held). cond {A = ℕ} (is_some x) 1 0) o os
    ∙ (λ i. one_is o i + lives_is os i)

swapped : (a b c : ℕ) → (a + b) + c ≡ (c + b) + a
swapped a b c = omega arith

added : (n x y a b : ℕ) → x + a ≡ y + b → (n + x) + a ≡ (n + y) + b
added n x y a b e = omega (arith, e)

lives_set : (os : List (Option Held)) (b : ℕ) (o : Option Held) → b < length os → lives (slice_set os b o) + one (slice_index_or os b None) ≡ lives os + one o
lives_set [] b o in_range = omega (arith, in_range)
lives_set (p ∷ ps) zero o in_range = swapped (one o) (lives ps) (one p)
lives_set (p ∷ ps) (suc b) o in_range =
    added (one p) (lives (slice_set ps b o)) (lives ps) (one (slice_index_or ps b None)) (one o) (lives_set ps b o (omega (arith, in_range)))

abbrev count_in : List Place → ℕ
count_in ps = count_by is_some (map held_of ps)

-- a place that showed p shows q
changed_live : (ps : List Place) (b : ℕ) (p q : Place) → b < length ps → slice_index_or (map held_of ps) b None ≡ held_of p → count_in (slice_set ps b q) + one (held_of p) ≡ count_in ps + one (held_of q)
changed_live ps b p q in_range is =
    (λ i. lives_is (map held_of (slice_set ps b q)) i + one (held_of p))
    ∙ ap (λ os. lives os + one (held_of p)) (map-set held_of ps b q)
    ∙ ap (λ o. lives (slice_set (map held_of ps) b (held_of q)) + one o) (sym is)
    ∙ lives_set (map held_of ps) b (held_of q) (subst (λ n. b < n) (sym (map_length ps)) in_range)
    ∙ (λ i. sym (lives_is (map held_of ps)) i + one (held_of q))

one_as : (b n : ℕ) (x : Content) → 0 < n → one (held_as b n x) ≡ 1
one_as b zero x some = omega (arith, some)
one_as b (suc n) x some = refl

one_of : (p : Place) → 0 < p.count → one (held_of p) ≡ 1
one_of p some = one_as p.born p.count (content_unless p.out_len p.cells.items) some

none_of : (p : Place) → p.count ≡ 0 → one (held_of p) ≡ 0
none_of p none = ap (λ n. one (held_as p.born n (content_unless p.out_len p.cells.items))) none

-- ---- the counters

-- each buffer that was taken was given back, or is live
abbrev IsEven : Inside → Type 0
IsEven a = a.taken ≡ (a.given + count_in a.places.items) % 2 ^ 64

as_many : (t g n m : ℕ) → n + 1 ≡ m + 1 → t ≡ (g + m) % 2 ^ 64 → t ≡ (g + n) % 2 ^ 64
as_many t g n m same even = even ∙ ap (λ k. (g + k) % 2 ^ 64) (let e : m ≡ n = omega (arith, same) in e)

one_less : (t g n m : ℕ) → n + 1 ≡ m + 0 → t ≡ (g + m) % 2 ^ 64 → t ≡ ((g + 1) % 2 ^ 64 + n) % 2 ^ 64
one_less t g n m less even =
    even
    ∙ ap (λ k. k % 2 ^ 64) (let e : g + m ≡ (g + 1) + n = omega (arith, less) in e)
    ∙ sym (mod-add-mod (g + 1) (2 ^ 64) n)

one_more : (t g n m : ℕ) → n + 0 ≡ m + 1 → t ≡ (g + m) % 2 ^ 64 → (t + 1) % 2 ^ 64 ≡ (g + n) % 2 ^ 64
one_more t g n m more even =
    ap (λ k. (k + 1) % 2 ^ 64) even
    ∙ mod-add-mod (g + m) (2 ^ 64) 1
    ∙ ap (λ k. k % 2 ^ 64) (let e : (g + m) + 1 ≡ g + n = omega (arith, more) in e)

two_heaps : (t g l u k n : ℕ) → n ≡ 0 → t ≡ (g + l) % 2 ^ 64 → u ≡ (k + n) % 2 ^ 64 → (t + u) % 2 ^ 64 ≡ ((g + k) % 2 ^ 64 + l) % 2 ^ 64
two_heaps t g l u k n none even other =
    (λ i. (even i + other i) % 2 ^ 64)
    ∙ mod-add-mod (g + l) (2 ^ 64) ((k + n) % 2 ^ 64)
    ∙ ap (λ x. x % 2 ^ 64) (let e : (g + l) + (k + n) % 2 ^ 64 ≡ (k + n) % 2 ^ 64 + (g + l) = flip (g + l) ((k + n) % 2 ^ 64) in e)
    ∙ mod-add-mod (k + n) (2 ^ 64) (g + l)
    ∙ ap (λ x. x % 2 ^ 64) (let e : (k + n) + (g + l) ≡ (g + k) + l = omega (arith, none) in e)
    ∙ sym (mod-add-mod (g + k) (2 ^ 64) l)
  where
    flip : (x y : ℕ) → x + y ≡ y + x
    flip x y = omega arith

-- a place that has a buffer
module _ (a : Inside) (h : HeapValue) (b : ℕ) (p q : Place) (M : Held → Type 0) (s : Shows a h b p M) (some : 0 < p.count) (even : IsEven a) where
  changes : count_in (slice_set a.places.items b q) + one (held_of p) ≡ count_in a.places.items + one (held_of q)
  changes = changed_live a.places.items b p q (below a h b p M s) (ap (λ x. at x b) s.view ∙ there a h b p M s)

  -- it has one afterwards
  pub even_kept : 0 < q.count → a.taken ≡ (a.given + count_in (slice_set a.places.items b q)) % 2 ^ 64
  even_kept more =
      as_many a.taken a.given (count_in (slice_set a.places.items b q)) (count_in a.places.items)
      ((λ i. count_in (slice_set a.places.items b q) + sym (one_of p some) i) ∙ changes ∙ (λ i. count_in a.places.items + one_of q more i))
      even

  -- it has none afterwards
  pub even_freed : q.count ≡ 0 → a.taken ≡ ((a.given + 1) % 2 ^ 64 + count_in (slice_set a.places.items b q)) % 2 ^ 64
  even_freed gone =
      one_less a.taken a.given (count_in (slice_set a.places.items b q)) (count_in a.places.items)
      ((λ i. count_in (slice_set a.places.items b q) + sym (one_of p some) i) ∙ changes ∙ (λ i. count_in a.places.items + none_of q gone i))
      even

-- a place that had no buffer has one
pub even_stored : (a : Inside) (b : ℕ) (p q : Place) → b < length a.places.items → p ≡ slice_index_or a.places.items b p → p.count ≡ 0 → 0 < q.count → IsEven a → (a.taken + 1) % 2 ^ 64 ≡ (a.given + count_in (slice_set a.places.items b q)) % 2 ^ 64
even_stored a b p q in_range is none some even =
    one_more a.taken a.given (count_in (slice_set a.places.items b q)) (count_in a.places.items)
    ((λ i. count_in (slice_set a.places.items b q) + sym (none_of p none) i)
    ∙ changed_live a.places.items b p q in_range (get_or-map held_of a.places.items b p None in_range ∙ ap held_of (sym is))
    ∙ (λ i. count_in a.places.items + one_of q some i))
    even

-- a buffer behind all places
pub even_pushed : (a : Inside) (q : Place) → 0 < q.count → IsEven a → (a.taken + 1) % 2 ^ 64 ≡ (a.given + count_in (a.places.items ++ q ∷ [])) % 2 ^ 64
even_pushed a q some even =
    one_more a.taken a.given (count_in (a.places.items ++ q ∷ [])) (count_in a.places.items) (none_more (more a.places.items)) even
  where
    none_more : {n m : ℕ} → n ≡ m → n + 0 ≡ m
    none_more {n} e = (let z : n + 0 ≡ n = omega arith in z) ∙ e

    lives_more : (ps : List Place) → lives (map held_of (ps ++ q ∷ [])) ≡ lives (map held_of ps) + 1
    lives_more [] = ap (λ n. n + 0) (one_of q some)
    lives_more (p ∷ ps) = ap (λ n. one (held_of p) + n) (lives_more ps) ∙ (let e : one (held_of p) + (lives (map held_of ps) + 1) ≡ (one (held_of p) + lives (map held_of ps)) + 1 = omega arith in e)

    more : (ps : List Place) → count_in (ps ++ q ∷ []) ≡ count_in ps + 1
    more ps = lives_is (map held_of (ps ++ q ∷ [])) ∙ lives_more ps ∙ ap (λ n. n + 1) (sym (lives_is (map held_of ps)))

-- two heaps, where the second has no live buffer
pub even_together : (a c : Inside) (h : HeapValue) → record { places = map held_of c.places.items; births = c.births; taken = c.taken; given = c.given; reused = c.reused } ≡ h → ((b : ℕ) → at h b ≡ None) → IsEven a → IsEven c → (a.taken + c.taken) % 2 ^ 64 ≡ ((a.given + c.given) % 2 ^ 64 + count_in a.places.items) % 2 ^ 64
even_together a c h view vacant even other =
    two_heaps a.taken a.given (count_in a.places.items) c.taken c.given (count_in c.places.items)
    (ap (λ (x : HeapValue). count_by is_some x.places) view ∙ none_live h vacant)
    even other

-- Each axis has a count, and only one.
use Rattle.std.proofs.Common.{◌≡◌, ℕ, zero, suc, ◌+◌, ◌*◌, ◌%◌, ◌<◌, ◌≤◌, ◌⊎◌, inl, inr, arith, refl, sym, ap, subst, ◌∙◌, List, [], ◌∷◌}
use Rattle.std.specs.Prelude.{ℤ, ◌≤ℤ◌, ◌<ℤ◌, ◌-ℤ◌, unsigned_abs, Bool, true, false, max, slice_index_or}
use Rattle.std.specs.List.{All}
use Rattle.std.proofs.lemmas.Int.{ints}
use Rattle.std.proofs.lemmas.Bool.{cases_Bool, cases_eq, cases_lt}
use Rattle.std.proofs.Math.Nat.{mul-mod_left, mul_comm, mul-pos}
use Rattle.std.proofs.lemmas.Nat.{mul-mod_second}
use Rattle.std.proofs.lemmas.List.Elements.{All-nil, All-cons, All-head, All-tail}
use Rattle.sac_base.specs.declared.grid.Grid1.{Grid1}
use Rattle.grid_sets.specs.Segments.{at_end, and_segment, NoCut, IsBound, IsFirstSegment, IsMultipleFor, IsPeriod, IsAxisCount, spans, steps_of, runs_of}
use Rattle.std.specs.Bool.{MatchBool}
use Rattle.grid_sets.specs.Periods.{IsLeastMultiple, IsCommonPeriod, overlap}
use Rattle.grid_sets.proofs.Cuts.{all_narrower}
use Rattle.grid_sets.proofs.Axes.{first_counted, ended}
use Rattle.grid_sets.proofs.Pairs.{steps_some}

true_false : {A : Type 0} (t : Bool) → t ≡ true → t ≡ false → A
true_false t e f = absurd (cc)

-- a segment up to a number, where that lies inside
record Nearer (from stop place : ℤ) : Type 0 where
  at : ℤ
  some : from <ℤ at
  low : at ≤ℤ stop
  clear : (place ≤ℤ from) ⊎ (at ≤ℤ place)
  end : (at ≡ stop) ⊎ (at ≡ place)

cases_order : (x y : ℤ) → (x <ℤ y) ⊎ (y ≤ℤ x)
cases_order x y = grind (arith, ints)

nearer : (from stop place : ℤ) → from <ℤ stop → Nearer from stop place
nearer from stop place h = elim (cases_order from place) [
  | inl above ↦ elim (cases_order place stop) [
    | inl below ↦ record { at = place; some = above; low = omega (arith, ints); clear = inr (omega (arith, ints)); end = inr refl }
    | inr past ↦ record { at = stop; some = h; low = omega (arith, ints); clear = inr past; end = inl refl }
  ]
  | inr before ↦ record { at = stop; some = h; low = omega (arith, ints); clear = inl before; end = inl refl }
]

later : (g : Grid1) (gs : List Grid1) (x : ℤ) → IsBound gs x → IsBound (g ∷ gs) x
later g gs x (k, h, low, is, at) = (suc k, h, omega arith, is, at)

lower : (x f t u : ℤ) → u ≤ℤ t → (x ≤ℤ f) ⊎ (t ≤ℤ x) → (x ≤ℤ f) ⊎ (u ≤ℤ x)
lower x f t u h (inl a) = inl a
lower x f t u h (inr b) = inr (omega (arith, ints))

ends : (g : Grid1) (gs : List Grid1) (to s m u : ℤ) → (s ≡ to) ⊎ IsBound gs s → (m ≡ s) ⊎ (m ≡ g.lo) → (u ≡ m) ⊎ (u ≡ g.hi) → (u ≡ to) ⊎ IsBound (g ∷ gs) u
ends g gs to s m u before lo (inr hi) = inr (0, g, omega arith, refl, inr hi)
ends g gs to s m u before (inr lo) (inl same) = inr (0, g, omega arith, refl, inl (same ∙ lo))
ends g gs to s m u (inl end) (inl lo) (inl same) = inl (same ∙ lo ∙ end)
ends g gs to s m u (inr bound) (inl lo) (inl same) = inr (later g gs u (subst (IsBound gs) (sym (same ∙ lo)) bound))

pub some_first : (grids : List Grid1) (from to : ℤ) → from <ℤ to → (stop : ℤ) × IsFirstSegment from to grids stop
some_first [] from to h = (to, record { some = h; inside = omega (arith, ints); clear = All-nil _; end = inl refl })
some_first (g ∷ gs) from to h =
    let rest = some_first gs from to h in
    let a = nearer from rest.0 g.lo rest.1.some in
    let b = nearer from a.at g.hi a.some in
    let inside = rest.1.inside in
    let low_a = a.low in
    let low_b = b.low in (
      b.at,
      record {
        some = b.some;
        inside = omega (arith, ints);
        clear = All-cons (NoCut from b.at) g gs (lower g.lo from a.at b.at b.low a.clear, b.clear)
            (all_narrower gs from rest.0 from b.at (omega (arith, ints)) (omega (arith, ints)) rest.1.clear);
        end = ends g gs to rest.0 a.at b.at rest.1.end a.end b.end;
      },
    )

-- some common multiple: the product of the steps
abbrev all_steps : List Grid1 → ℕ
all_steps [] = 1
all_steps (g ∷ gs) = steps_of g * all_steps gs

steps_positive : (grids : List Grid1) → 0 < all_steps grids
steps_positive [] = omega arith
steps_positive (g ∷ gs) = mul-pos (steps_some g) (steps_positive gs)

times_whole : (c m s : ℕ) → m % s ≡ 0 → (c * m) % s ≡ 0
times_whole c m s h =
    let none : c * 0 ≡ 0 * s = omega arith in
    sym (mul-mod_second c m s) ∙ ap (λ k. (c * k) % s) h ∙ ap (λ k. k % s) none ∙ mul-mod_left 0 s

all_common : (grids : List Grid1) (from to : ℤ) → All (IsMultipleFor (all_steps grids) from to) grids
all_common [] from to = All-nil _
all_common (g ∷ gs) from to =
    All-cons (IsMultipleFor (steps_of g * all_steps gs) from to) g gs
    (λ on. ap (λ k. k % steps_of g) (mul_comm (steps_of g) (all_steps gs)) ∙ mul-mod_left (all_steps gs) (steps_of g))
    (λ k d l on. times_whole (steps_of g) (all_steps gs) (steps_of (slice_index_or gs k d)) (all_common gs from to k d l on))

abbrev Either : Type 0 → Type 0
Either P = P ⊎ (P → ⊥)

one_decided : (k : ℕ) (from to : ℤ) (g : Grid1) → Either (IsMultipleFor k from to g)
one_decided k from to g = elim (cases_Bool (spans g from to)) [
  | inr off ↦ inl (λ on. true_false (spans g from to) on off)
  | inl on ↦ elim (cases_eq (k % steps_of g) 0) [
    | inl whole ↦ inl (λ h. whole)
    | inr rest ↦ inr (λ h. rest (h on))
  ]
]

all_decided : (k : ℕ) (from to : ℤ) (grids : List Grid1) → Either (All (IsMultipleFor k from to) grids)
all_decided k from to [] = inl (All-nil _)
all_decided k from to (g ∷ gs) = elim (one_decided k from to g) [
  | inr off ↦ inr (λ h. off (All-head (IsMultipleFor k from to) g gs h))
  | inl on ↦ elim (all_decided k from to gs) [
    | inr off ↦ inr (λ h. off (All-tail (IsMultipleFor k from to) g gs h))
    | inl rest ↦ inl (All-cons (IsMultipleFor k from to) g gs on rest)
  ]
]

record LeastOf (P : ℕ → Type 0) (m : ℕ) : Type 0 where
  some : 0 < m
  holds : P m
  least : (k : ℕ) → 0 < k → P k → m ≤ k

found : (P : ℕ → Type 0) → ((k : ℕ) → Either (P k)) → (n : ℕ) → ((k : ℕ) → 0 < k → k ≤ n → P k → ⊥) ⊎ ((m : ℕ) × LeastOf P m)
found P decided zero = inl (λ k a b h. absurd (omega arith))
found P decided (suc n) = elim (found P decided n) [
  | inr here ↦ inr here
  | inl none ↦ elim (decided (suc n)) [
    | inl on ↦ inr (
      suc n,
      record {
        some = omega arith;
        holds = on;
        least = λ k a h. elim (cases_lt k (suc n)) [
          | inl less ↦ absurd (none k a (omega arith) h)
          | inr more ↦ more
        ];
      },
    )
    | inr off ↦ inl (λ k a b h. elim (cases_eq k (suc n)) [
      | inl same ↦ off (subst P same h)
      | inr other ↦ none k a (omega (arith, other)) h
    ])
  ]
]

pub some_period : (grids : List Grid1) (from to : ℤ) → (p : ℕ) × IsPeriod from to grids p
some_period grids from to = elim (found (λ k. All (IsMultipleFor k from to) grids) (λ k. all_decided k from to grids) (all_steps grids)) [
  | inl none ↦ absurd (none (all_steps grids) (steps_positive grids) (omega arith) (all_common grids from to))
  | inr here ↦ (here.0, record { positive = here.1.some; common = here.1.holds; least = here.1.least })
]

-- a count, greatest period and runs
abbrev Counted : List Grid1 → ℤ → ℤ → Type 0
Counted grids to from = (greatest : ℕ) × ((runs : ℕ) × IsAxisCount grids to from greatest runs)

with_first : (grids : List Grid1) (to from stop : ℤ) → IsFirstSegment from to grids stop → ((p : ℕ) × IsPeriod from stop grids p) → Counted grids to stop → Counted grids to from
with_first grids to from stop first (p, is) (greatest, (runs, rest)) = (max p greatest, (runs_of grids from stop p + runs, and_segment from stop p greatest runs first is rest))

count_within : (n : ℕ) (grids : List Grid1) (to from : ℤ) → unsigned_abs (to -ℤ from) ≤ n → Counted grids to from
count_within zero grids to from h = (0, (0, at_end from (omega (arith, ints))))
count_within (suc n) grids to from h = elim (cases_order from to) [
  | inr past ↦ (0, (0, at_end from past))
  | inl ahead ↦
      let first = some_first grids from to ahead in
      let some = first.1.some in
      let inside = first.1.inside in
      with_first grids to from first.0 first.1 (some_period grids from first.0) (count_within n grids to first.0 (omega (arith, ints)))
]

pub axis_counted : (grids : List Grid1) (to from : ℤ) → Counted grids to from
axis_counted grids to from = count_within (unsigned_abs (to -ℤ from)) grids to from (omega arith)

pub one_count : (grids : List Grid1) (to from : ℤ) (g r : ℕ) → IsAxisCount grids to from g r → (h s : ℕ) → IsAxisCount grids to from h s → (h ≡ g) × (s ≡ r)
one_count grids to from _ _ (at_end _ past) h s other = ended grids to from h s other past
one_count grids to from _ _ (and_segment _ stop p g r first is rest) h s other =
    let some = first.some in
    let inside = first.inside in
    let next = first_counted grids to from h s other stop p (omega (arith, ints)) first is in
    let same = one_count grids to stop g r rest next.above next.left next.count in
    (next.greatest_is ∙ ap (max p) same.0, next.runs_is ∙ ap (λ n. runs_of grids from stop p + n) same.1)

two_decided : (a b k : ℕ) → Either ((k % a ≡ 0) × (k % b ≡ 0))
two_decided a b k = elim (cases_eq (k % a) 0) [
  | inr off ↦ inr (λ h. off h.0)
  | inl one ↦ elim (cases_eq (k % b) 0) [
    | inr off ↦ inr (λ h. off h.1)
    | inl two ↦ inl (one, two)
  ]
]

least_exists : (a b : ℕ) → 0 < a → 0 < b → (p : ℕ) × IsLeastMultiple a b p
least_exists a b h k = elim (found (λ n. (n % a ≡ 0) × (n % b ≡ 0)) (two_decided a b) (a * b)) [
  | inl none ↦ absurd (none (a * b) (mul-pos h k) (omega arith) (ap (λ n. n % a) (mul_comm a b) ∙ mul-mod_left b a, mul-mod_left a b))
  | inr here ↦ (here.0, record { positive = here.1.some; left = here.1.holds.0; right = here.1.holds.1; least = λ n s x y. here.1.least n s (x, y) })
]

common_apart : (a b : Grid1) (p : ℕ) → overlap a b ≡ false → p ≡ 1 → IsCommonPeriod a b p
common_apart a b p off e = subst (λ t. MatchBool t (IsLeastMultiple (steps_of a) (steps_of b) p) (p ≡ 1)) (sym off) e

pub some_common : (a b : Grid1) → (p : ℕ) × IsCommonPeriod a b p
some_common a b = elim (cases_Bool (overlap a b)) [
  | inl on ↦
      let least = least_exists (steps_of a) (steps_of b) (steps_some a) (steps_some b) in
      (least.0, subst (λ t. MatchBool t (IsLeastMultiple (steps_of a) (steps_of b) least.0) (least.0 ≡ 1)) (sym on) least.1)
  | inr off ↦ (1, common_apart a b 1 off refl)
]

pub one_common : (a b : Grid1) (p q : ℕ) → IsCommonPeriod a b p → IsCommonPeriod a b q → q ≡ p
one_common a b p q h k = elim (cases_Bool (overlap a b)) [
  | inl on ↦
      let x : IsLeastMultiple (steps_of a) (steps_of b) p = subst (λ t. MatchBool t (IsLeastMultiple (steps_of a) (steps_of b) p) (p ≡ 1)) on h in
      let y : IsLeastMultiple (steps_of a) (steps_of b) q = subst (λ t. MatchBool t (IsLeastMultiple (steps_of a) (steps_of b) q) (q ≡ 1)) on k in
      let one = x.least q y.positive y.left y.right in
      let two = y.least p x.positive x.left x.right in omega arith
  | inr off ↦
      let x : p ≡ 1 = subst (λ t. MatchBool t (IsLeastMultiple (steps_of a) (steps_of b) p) (p ≡ 1)) off h in
      let y : q ≡ 1 = subst (λ t. MatchBool t (IsLeastMultiple (steps_of a) (steps_of b) q) (q ≡ 1)) off k in y ∙ sym x
]

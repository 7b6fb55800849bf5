-- The walk along an axis, segment by segment.
use Rattle.std.proofs.Common.{◌≡◌, ℕ, ◌+◌, ◌<◌, ◌≤◌, ◌⊎◌, inl, inr, arith, refl, sym, ap, subst, ◌∙◌, List, [], ◌++◌, length}
use Rattle.std.specs.Prelude.{ℤ, ◌≤ℤ◌, ◌<ℤ◌, ◌-ℤ◌, unsigned_abs, Bool, cond, max}
use Rattle.std.specs.List.{All}
use Rattle.std.proofs.lemmas.Int.{ints}
use Rattle.std.proofs.lemmas.List.{length-append}
use Rattle.std.proofs.lemmas.List.Sums.{sum_by-append}
use Rattle.std.proofs.lemmas.List.Elements.{All-append}
use Rattle.sac_base.specs.declared.grid.Grid1.{Grid1}
use Rattle.sac_base.specs.Grids.{has_index, within, times, Splits}
use Rattle.sac_base.proofs.GridFacts.{within_is}
use Rattle.grid_sets.specs.Segments.{at_end, and_segment, NoCut, IsBound, IsFirstSegment, IsMultipleFor, IsPeriod, IsUniform, IsAxisCount, Extends, runs_of}

-- two segments that meet
pub join_within : (lo mid hi x : ℤ) → lo ≤ℤ mid → mid ≤ℤ hi → let none : ℕ = 0 in cond (within lo mid x) 1 none + cond (within mid hi x) 1 none ≡ cond (within lo hi x) 1 none
join_within lo mid hi x h k = elim (within_is lo mid x) [
  | inl a ↦ elim (within_is mid hi x) [
    | inl b ↦ absurd (omega (arith, ints))
    | inr b ↦ elim (within_is lo hi x) [ inl d ↦ rw (a.2, b.1, d.2) | inr d ↦ absurd (elim d.0 [ inl l ↦ omega (arith, ints) | inr l ↦ omega (arith, ints) ]) ]
  ]
  | inr a ↦ elim (within_is mid hi x) [
    | inl b ↦ elim (within_is lo hi x) [ inl d ↦ rw (a.1, b.2, d.2) | inr d ↦ absurd (elim d.0 [ inl l ↦ omega (arith, ints) | inr l ↦ omega (arith, ints) ]) ]
    | inr b ↦ elim (within_is lo hi x) [
      | inr d ↦ rw (a.1, b.1, d.1)
      | inl d ↦
          absurd (elim a.0 [ inl l ↦ omega (arith, ints) | inr l ↦ elim b.0 [ inl m ↦ omega (arith, ints) | inr m ↦ omega (arith, ints) ] ])
    ]
  ]
]

pub times_append : (xs ys zs : List Grid1) (x : ℤ) → zs ≡ xs ++ ys → times zs x ≡ times xs x + times ys x
times_append xs ys zs x e = ap (λ l. times l x) e ∙ sum_by-append (λ p. cond (has_index p x) 1 0) xs ys

-- where the walk stands: at or below the end, or at the start of an empty axis
abbrev pub Stands : ℤ → ℤ → ℤ → Type 0
Stands lo from hi = (from ≤ℤ hi) ⊎ ((hi ≤ℤ lo) × (from ≡ lo))

pub stands_first : (lo hi : ℤ) → Stands lo lo hi
stands_first lo hi = grind (arith, ints)

pub none_at : (xs : List Grid1) (l h : ℤ) → xs ≡ [] → h ≤ℤ l → Splits xs (within l h)
none_at xs l h e le x = ap (λ l. times l x) e ∙ elim (within_is l h x) [
  | inl at ↦ absurd (omega (arith, ints))
  | inr off ↦ sym (rw off.1)
]

pub end_at : (xs : List Grid1) (lo from hi : ℤ) → hi ≤ℤ from → Stands lo from hi → Splits xs (within lo from) → Splits xs (within lo hi)
end_at xs lo from hi h (inl le) s x =
    let e : from ≡ hi = omega (arith, ints) in subst (λ z. Splits xs (within lo z)) e s x
end_at xs lo from hi h (inr at) s x = s x ∙ elim (within_is lo from x) [
  | inl a ↦ absurd (omega (arith, ints, at.1))
  | inr a ↦ elim (within_is lo hi x) [ inl b ↦ absurd (omega (arith, ints, at.0)) | inr b ↦ rw (a.1, b.1) ]
]

pub more_split : (grids old new : List Grid1) (n : ℕ) (lo from f t : ℤ) → f ≡ from → lo ≤ℤ from → from ≤ℤ t → Splits old (within lo from)
    → Extends old new (within f t) grids n → Splits new (within lo t)
more_split grids old new n lo from f t e low high before more x =
    times_append old more.more new x more.joined
    ∙ ap (λ n. n + times more.more x) (before x) ∙ ap (λ n. cond (within lo from x) 1 0 + n) (more.split x)
    ∙ ap (λ z. cond (within lo from x) 1 0 + cond (within z t x) 1 0) e ∙ join_within lo from t x low high

pub more_even : (grids old new : List Grid1) (n : ℕ) (s : ℤ → Bool) → All (IsUniform grids) old → Extends old new s grids n → All (IsUniform grids) new
more_even grids old new n s before more = subst (All (IsUniform grids)) (sym more.joined) (All-append (IsUniform grids) old more.more before more.uniform)

-- Of the count of the axis, what is left at a number when so many runs were made, and the segments so far have no period above the limit.
pub record Rest (grids : List Grid1) (to : ℤ) (limit : ℕ) (at : ℤ) (made greatest runs : ℕ) : Type 0 where
  pub above : ℕ
  pub left : ℕ
  pub count : IsAxisCount grids to at above left
  pub made_and_left : runs ≡ made + left
  pub low : above ≤ limit → greatest ≤ limit
  pub high : limit < above → limit < greatest

abbrev pub Leaves : List Grid1 → ℤ → ℕ → ℤ → ℤ → ℕ → Type 0
Leaves grids to limit from at made = (greatest runs : ℕ) → IsAxisCount grids to from greatest runs → Rest grids to limit at made greatest runs

pub leaves_all : (grids : List Grid1) (to from : ℤ) (limit made : ℕ) → made ≡ 0 → Leaves grids to limit from from made
leaves_all grids to from limit made e greatest runs count =
    record { above = greatest; left = runs; count = count; made_and_left = omega arith; low = λ h. h; high = λ h. h }

-- the count of an axis that goes on: its first segment is the one that was found
pub record FirstCounted (grids : List Grid1) (to from stop : ℤ) (period greatest runs : ℕ) : Type 0 where
  pub above : ℕ
  pub left : ℕ
  pub count : IsAxisCount grids to stop above left
  pub greatest_is : greatest ≡ max period above
  pub runs_is : runs ≡ runs_of grids from stop period + left

cut_apart : (grids : List Grid1) (from stop end : ℤ) → All (NoCut from stop) grids → IsBound grids end → from <ℤ end → end <ℤ stop → ⊥
cut_apart grids from stop end clear (k, g, low, is, at) h l =
    let cut = clear k g low in
    elim at [
      | inl lo ↦ elim cut.0 [
        | inl a ↦ omega (arith, ints, lo, ap (λ g. g.lo) is)
        | inr a ↦ omega (arith, ints, lo, ap (λ g. g.lo) is)
      ]
      | inr hi ↦ elim cut.1 [
        | inl a ↦ omega (arith, ints, hi, ap (λ g. g.hi) is)
        | inr a ↦ omega (arith, ints, hi, ap (λ g. g.hi) is)
      ]
    ]

cases_order : (x y : ℤ) → (x ≡ y) ⊎ ((x <ℤ y) ⊎ (y <ℤ x))
cases_order x y = grind (arith, ints)

pub one_first : (grids : List Grid1) (from to stop end : ℤ) → IsFirstSegment from to grids stop → IsFirstSegment from to grids end → end ≡ stop
one_first grids from to stop end a b = elim (cases_order end stop) [
  | inl same ↦ same
  | inr (inl less) ↦ absurd (elim b.end [ inl e ↦ omega (arith, ints, a.inside) | inr bound ↦ cut_apart grids from stop end a.clear bound b.some less ])
  | inr (inr more) ↦ absurd (elim a.end [ inl e ↦ omega (arith, ints, b.inside) | inr bound ↦ cut_apart grids from end stop b.clear bound a.some more ])
]

pub one_period : (grids : List Grid1) (from to : ℤ) (p q : ℕ) → IsPeriod from to grids p → IsPeriod from to grids q → q ≡ p
one_period grids from to p q a b =
    let one = a.least q b.positive b.common in
    let two = b.least p a.positive a.common in omega arith

pub first_counted : (grids : List Grid1) (to from : ℤ) (greatest runs : ℕ) → IsAxisCount grids to from greatest runs → (stop : ℤ) (period : ℕ) → from <ℤ to
    → IsFirstSegment from to grids stop → IsPeriod from stop grids period → FirstCounted grids to from stop period greatest runs
first_counted grids to from _ _ (at_end _ h) stop period l first is = absurd (omega (arith, ints))
first_counted grids to from _ _ (and_segment _ end p g r f q rest) stop period l first is =
    let same : end ≡ stop = one_first grids from to stop end first f in
    let one : p ≡ period = one_period grids from stop period p is (subst (λ z. IsPeriod from z grids p) same q) in
    record {
      above = g;
      left = r;
      count = subst (λ z. IsAxisCount grids to z g r) same rest;
      greatest_is = ap (λ k. max k g) one;
      runs_is = ap (λ z. runs_of grids from z p + r) same ∙ ap (λ k. runs_of grids from stop k + r) one;
    }

-- a first segment whose common multiples are all above the limit
pub first_above : (grids : List Grid1) (to from : ℤ) (greatest runs : ℕ) → IsAxisCount grids to from greatest runs → (stop : ℤ) (limit : ℕ) → from <ℤ to
    → IsFirstSegment from to grids stop → ((k : ℕ) → 0 < k → All (IsMultipleFor k from stop) grids → limit < k) → limit < greatest
first_above grids to from _ _ (at_end _ h) stop limit l first above = absurd (omega (arith, ints))
first_above grids to from _ _ (and_segment _ end p g r f q rest) stop limit l first above =
    let same : end ≡ stop = one_first grids from to stop end first f in
    let high : limit < p = above p q.positive (subst (λ z. All (IsMultipleFor p from z) grids) same q.common) in
    omega arith

pub ended : (grids : List Grid1) (to from : ℤ) (greatest runs : ℕ) → IsAxisCount grids to from greatest runs → to ≤ℤ from → (greatest ≡ 0) × (runs ≡ 0)
ended grids to from _ _ (at_end _ h) l = (refl, refl)
ended grids to from _ _ (and_segment _ end p g r f q rest) l = let some = f.some in let inside = f.inside in absurd (omega (arith, ints))

pub leaves_more : (grids : List Grid1) (to from at stop : ℤ) (limit made made' period : ℕ) → at <ℤ to → IsFirstSegment at to grids stop → IsPeriod at stop grids period → period ≤ limit
    → made' ≡ made + runs_of grids at stop period → Leaves grids to limit from at made → Leaves grids to limit from stop made'
leaves_more grids to from at stop limit made made' period l first is low e before greatest runs count =
    let rest = before greatest runs count in
    let next = first_counted grids to at rest.above rest.left rest.count stop period l first is in
    let g = next.greatest_is in
    let r = next.runs_is in
    let all = rest.made_and_left in
    record {
      above = next.above;
      left = next.left;
      count = next.count;
      made_and_left = omega arith;
      low = λ h. rest.low (omega arith);
      high = λ h. rest.high (omega arith);
    }

pub leaves_fine : (grids : List Grid1) (to from at stop : ℤ) (limit made greatest runs : ℕ) → at <ℤ to → IsFirstSegment at to grids stop
    → ((k : ℕ) → 0 < k → All (IsMultipleFor k at stop) grids → limit < k) → Leaves grids to limit from at made → IsAxisCount grids to from greatest runs → limit < greatest
leaves_fine grids to from at stop limit made greatest runs l first above before count =
    let rest = before greatest runs count in
    rest.high (first_above grids to at rest.above rest.left rest.count stop limit l first above)

pub leaves_none : (grids : List Grid1) (to from at : ℤ) (limit made greatest runs : ℕ) → to ≤ℤ at → Leaves grids to limit from at made → IsAxisCount grids to from greatest runs
    → (greatest ≤ limit) × (made ≡ runs)
leaves_none grids to from at limit made greatest runs h before count =
    let rest = before greatest runs count in
    let none = ended grids to at rest.above rest.left rest.count h in
    let all = rest.made_and_left in
    (rest.low (omega (arith, none.0)), omega (arith, none.1))

pub more_counted : (grids old new : List Grid1) (set : ℤ → Bool) (n : ℕ) → Extends old new set grids n → length new ≡ length old + n
more_counted grids old new set n more = ap length more.joined ∙ length-append old more.more ∙ ap (λ k. length old + k) more.counted

pub gap_less : (f t u g v : ℤ) → g ≡ t → v ≡ u → f <ℤ t → t ≤ℤ u → unsigned_abs (v -ℤ g) < unsigned_abs (u -ℤ f)
gap_less f t u g v e h l k = rw (e, h) (omega (arith, ints))

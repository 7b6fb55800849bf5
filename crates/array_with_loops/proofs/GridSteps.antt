-- The members of a grid without gaps are the indices of its box.
use Rattle.std.proofs.Common.{◌≡◌, ℕ, zero, suc, ◌%◌, ◌<◌, List, [], ◌∷◌, ◌++◌, length, map, replicate, Bool, true, false, refl, sym, ap, ◌∙◌, subst, arith, ℤ, pos, negsuc, ◌+ℤ◌, ◌-ℤ◌, ◌≤ℤ◌, ◌<ℤ◌, All, FitsSigned, w32, inl, inr, true≢false, nat_lt, cond}
use Rattle.std.specs.Prelude.{flat_map, filter, not, ◌&&◌, ◌||◌, int_lt, unsigned_abs}
use Rattle.std.specs.List.{list_all}
use Rattle.std.specs.Int.{int_gap}
use Rattle.std.proofs.lemmas.Int.{ints}
use Rattle.std.proofs.lemmas.Bool.Decides.{nat_tests}
use Rattle.std.proofs.lemmas.List.Elements.{All-head, All-tail, All-nil, All-cons}
use Rattle.std.proofs.Math.Nat.{mod-one}
use Rattle.sac_base.specs.declared.grid.Grid1.{Grid1}
use Rattle.sac_base.specs.Grids.{has_index, has_vector, members, box_indices}
use Rattle.sac_base.specs.Grids
use Rattle.sac_base.specs.WithLoops.{Axis, Range, span_of, box, box_size, distance, is_empty_box, axes}
use Rattle.sac_base.specs.WithLoops
use Rattle.sac_base.proofs.GridFacts.{has_facts}
use Rattle.array_with_loops.specs.GridFrames.{box_range, grid_extents}
use Rattle.array_with_loops.specs.Ranges.{IsBound}

-- ---- one axis

dense_test : (d w : ℤ) (s : ℕ) → s ≡ 1 → pos 1 ≤ℤ w → nat_lt (unsigned_abs d % s) (unsigned_abs w) ≡ true
dense_test d (pos zero) s e h = absurd (omega (arith, ints))
dense_test d (negsuc w) s e h = absurd (omega (arith, ints))
dense_test d (pos (suc w)) s e h =
    let none : unsigned_abs d % s ≡ 0 = ap (λ n. unsigned_abs d % n) e ∙ mod-one (unsigned_abs d) in
    grind (arith, nat_tests)

has_dense : (g : Grid1) (x : ℤ) → g.step ≡ pos 1 → g.lo ≤ℤ x → x <ℤ g.hi → has_index g x ≡ true
has_dense g x one low high = elim (has_facts g x g.wide) [
  | inl y ↦ y.2 ∙ dense_test (x -ℤ g.lo) g.width (unsigned_abs g.step) (ap unsigned_abs one) g.wide
  | inr n ↦ elim n.0 [
    | inl below ↦ absurd (omega (arith, ints))
    | inr above ↦ absurd (omega (arith, ints))
  ]
]

gap_distance : (a b : ℤ) → int_gap a b ≡ distance (b -ℤ a)
gap_distance a b = by a b (b -ℤ a) refl
  where
    by : (a b d : ℤ) → b -ℤ a ≡ d → int_gap a b ≡ distance d
    by (pos a) (pos b) (pos d) e = omega (arith, ints)
    by (pos a) (pos b) (negsuc d) e = omega (arith, ints)
    by (pos a) (negsuc b) (pos d) e = absurd (omega (arith, ints))
    by (pos a) (negsuc b) (negsuc d) e = refl
    by (negsuc a) (pos b) (pos d) e = omega (arith, ints)
    by (negsuc a) (pos b) (negsuc d) e = absurd (omega (arith, ints))
    by (negsuc a) (negsuc b) (pos d) e = omega (arith, ints)
    by (negsuc a) (negsuc b) (negsuc d) e = omega (arith, ints)

gap_below : (a b : ℤ) (k : ℕ) → k < int_gap a b → (a +ℤ pos k) <ℤ b
gap_below (pos a) (pos b) k h = omega (arith, ints)
gap_below (pos a) (negsuc b) k h = absurd (omega arith)
gap_below (negsuc a) (pos b) k h = omega (arith, ints)
gap_below (negsuc a) (negsuc b) k h = omega (arith, ints)

gap_none : (a b : ℤ) → b ≤ℤ a → int_gap a b ≡ 0
gap_none (pos a) (pos b) h = omega (arith, ints)
gap_none (pos a) (negsuc b) h = refl
gap_none (negsuc a) (pos b) h = absurd (omega (arith, ints))
gap_none (negsuc a) (negsuc b) h = omega (arith, ints)

-- ---- the box

numbers_same : (z : ℤ) (n : ℕ) → Grids.numbers_from z n ≡ WithLoops.numbers_from z n
numbers_same z zero = refl
numbers_same z (suc n) = ap (λ zs. z ∷ zs) (numbers_same (z +ℤ pos 1) n)

abbrev indices : List Grid1 → List (List ℤ)
indices g = box_indices (map (λ (a : Grid1). a.lo) g) (map (λ (a : Grid1). a.hi) g)

boxes_same : (g : List Grid1) → indices g ≡ box (map span_of (box_range g))
boxes_same [] = refl
boxes_same (a ∷ g) =
    ap (λ rest. flat_map (λ x. map (λ v. x ∷ v) rest) (Grids.numbers_from a.lo (int_gap a.lo a.hi))) (boxes_same g)
    ∙ ap (λ n. flat_map (λ x. map (λ v. x ∷ v) (box (map span_of (box_range g)))) (Grids.numbers_from a.lo n)) (gap_distance a.lo a.hi)
    ∙ ap (λ zs. flat_map (λ x. map (λ v. x ∷ v) (box (map span_of (box_range g)))) zs) (numbers_same a.lo (distance (a.hi -ℤ a.lo)))

-- ---- each index is a member

filter_all : {A : Type 0} (p : A → Bool) (xs : List A) → list_all p xs ≡ true → filter p xs ≡ xs
filter_all p [] e = refl
filter_all p (x ∷ xs) e = by (p x) refl e (filter_all p xs)
  where
    by : (b : Bool) → p x ≡ b → (b && list_all p xs) ≡ true → (list_all p xs ≡ true → filter p xs ≡ xs) → filter p (x ∷ xs) ≡ x ∷ xs
    by true f e rest = ap (λ b. cond b (x ∷ filter p xs) (filter p xs)) f ∙ ap (λ ys. x ∷ ys) (rest e)
    by false f e rest = absurd (true≢false (sym e))

all_append : {A : Type 0} (p : A → Bool) (xs ys : List A) → list_all p xs ≡ true → list_all p ys ≡ true → list_all p (xs ++ ys) ≡ true
all_append p [] ys e f = f
all_append p (x ∷ xs) ys e f = by (p x) e (λ g. all_append p xs ys g f)
  where
    by : (b : Bool) → (b && list_all p xs) ≡ true → (list_all p xs ≡ true → list_all p (xs ++ ys) ≡ true) → (b && list_all p (xs ++ ys)) ≡ true
    by true e rest = rest e
    by false e rest = absurd (true≢false (sym e))

heads : (a : Grid1) (g : List Grid1) (x : ℤ) (vs : List (List ℤ)) → has_index a x ≡ true → list_all (has_vector g) vs ≡ true → list_all (has_vector (a ∷ g)) (map (λ v. x ∷ v) vs) ≡ true
heads a g x [] h e = refl
heads a g x (v ∷ vs) h e = by (has_vector g v) e (heads a g x vs h)
  where
    by : (b : Bool) → (b && list_all (has_vector g) vs) ≡ true → (list_all (has_vector g) vs ≡ true → list_all (has_vector (a ∷ g)) (map (λ v. x ∷ v) vs) ≡ true) → ((has_index a x && b) && list_all (has_vector (a ∷ g)) (map (λ v. x ∷ v) vs)) ≡ true
    by true e rest = ap (λ b. (b && true) && list_all (has_vector (a ∷ g)) (map (λ v. x ∷ v) vs)) h ∙ rest e
    by false e rest = absurd (true≢false (sym e))

along : (a : Grid1) (g : List Grid1) (vs : List (List ℤ)) (z : ℤ) (n : ℕ) → ((k : ℕ) → k < n → has_index a (z +ℤ pos k) ≡ true) → list_all (has_vector g) vs ≡ true → list_all (has_vector (a ∷ g)) (flat_map (λ x. map (λ v. x ∷ v) vs) (Grids.numbers_from z n)) ≡ true
along a g vs z zero each e = refl
along a g vs z (suc n) each e =
    let here : z +ℤ pos 0 ≡ z = omega (arith, ints) in
    all_append (has_vector (a ∷ g)) (map (λ v. z ∷ v) vs) (flat_map (λ x. map (λ v. x ∷ v) vs) (Grids.numbers_from (z +ℤ pos 1) n))
    (heads a g z vs (subst (λ x. has_index a x ≡ true) here (each 0 (omega arith))) e)
    (along a g vs (z +ℤ pos 1) n (λ k h. subst (λ x. has_index a x ≡ true) (next k) (each (suc k) (omega arith))) e)
  where
    next : (k : ℕ) → z +ℤ pos (suc k) ≡ (z +ℤ pos 1) +ℤ pos k
    next k = omega (arith, ints)

all_members : (g : List Grid1) → All (λ (a : Grid1). a.step ≡ pos 1) g → list_all (has_vector g) (indices g) ≡ true
all_members [] dense = refl
all_members (a ∷ g) dense =
    let one = All-head (λ (a : Grid1). a.step ≡ pos 1) a g dense in
    along a g (indices g) a.lo (int_gap a.lo a.hi)
    (λ k h. has_dense a (a.lo +ℤ pos k) one (omega (arith, ints)) (gap_below a.lo a.hi k h))
    (all_members g (All-tail (λ (a : Grid1). a.step ≡ pos 1) a g dense))

pub members_box : (g : List Grid1) → All (λ (a : Grid1). a.step ≡ pos 1) g → members g ≡ box (map span_of (box_range g))
members_box g dense = filter_all (has_vector g) (indices g) (all_members g dense) ∙ boxes_same g

-- ---- a box without an index

none_along : (zs : List ℤ) (vs : List (List ℤ)) → vs ≡ [] → flat_map (λ x. map (λ v. x ∷ v) vs) zs ≡ []
none_along [] vs e = refl
none_along (z ∷ zs) vs e = ap (λ ws. map (λ v. z ∷ v) ws ++ flat_map (λ x. map (λ v. x ∷ v) vs) zs) e ∙ none_along zs vs e

not_below : (a : Grid1) → not (int_lt a.lo a.hi) ≡ true → a.hi ≤ℤ a.lo
not_below a e = by (int_lt a.lo a.hi) refl e
  where
    by : (t : Bool) → int_lt a.lo a.hi ≡ t → not t ≡ true → a.hi ≤ℤ a.lo
    by true f e = absurd (true≢false (sym e))
    by false f e = grind (arith, ints)

none_in : (g : List Grid1) → is_empty_box (box_range g) ≡ true → indices g ≡ []
none_in [] e = absurd (true≢false (sym e))
none_in (a ∷ g) e = by (not (int_lt a.lo a.hi)) refl e (none_in g)
  where
    by : (t : Bool) → not (int_lt a.lo a.hi) ≡ t → (t || is_empty_box (box_range g)) ≡ true → (is_empty_box (box_range g) ≡ true → indices g ≡ []) → indices (a ∷ g) ≡ []
    by true f e rest = ap (λ n. flat_map (λ x. map (λ v. x ∷ v) (indices g)) (Grids.numbers_from a.lo n)) (gap_none a.lo a.hi (not_below a f))
    by false f e rest = none_along (Grids.numbers_from a.lo (int_gap a.lo a.hi)) (indices g) (rest e)

pub no_members : (g : List Grid1) → is_empty_box (box_range g) ≡ true → members g ≡ []
no_members g e = ap (filter (has_vector g)) (none_in g e)

-- ---- its corners

abbrev lows : List Grid1 → List ℤ
lows g = map (λ (a : Grid1). a.lo) g

abbrev lasts : List Grid1 → List ℤ
lasts g = map (λ (a : Grid1). a.hi -ℤ pos 1) g

is_below : (a : Grid1) → not (int_lt a.lo a.hi) ≡ false → a.lo <ℤ a.hi
is_below a e = by (int_lt a.lo a.hi) refl e
  where
    by : (t : Bool) → int_lt a.lo a.hi ≡ t → not t ≡ false → a.lo <ℤ a.hi
    by true f e = grind (arith, ints)
    by false f e = absurd (true≢false e)

or_false : (a b : Bool) → (a || b) ≡ false → (a ≡ false) × (b ≡ false)
or_false true b e = absurd (true≢false e)
or_false false b e = (refl, e)

both : (a b : Bool) → a ≡ true → b ≡ true → (a && b) ≡ true
both a b e f = ap (λ x. x && b) e ∙ f

low_in : (g : List Grid1) → All (λ (a : Grid1). a.step ≡ pos 1) g → is_empty_box (box_range g) ≡ false → has_vector g (lows g) ≡ true
low_in [] dense e = refl
low_in (a ∷ g) dense e =
    let parts = or_false (not (int_lt a.lo a.hi)) (is_empty_box (box_range g)) e in
    let one = All-head (λ (a : Grid1). a.step ≡ pos 1) a g dense in
    let some = is_below a parts.0 in
    both (has_index a a.lo) (has_vector g (lows g)) (has_dense a a.lo one (omega (arith, ints)) some)
    (low_in g (All-tail (λ (a : Grid1). a.step ≡ pos 1) a g dense) parts.1)

last_in : (g : List Grid1) → All (λ (a : Grid1). a.step ≡ pos 1) g → is_empty_box (box_range g) ≡ false → has_vector g (lasts g) ≡ true
last_in [] dense e = refl
last_in (a ∷ g) dense e =
    let parts = or_false (not (int_lt a.lo a.hi)) (is_empty_box (box_range g)) e in
    let one = All-head (λ (a : Grid1). a.step ≡ pos 1) a g dense in
    let some = is_below a parts.0 in
    both (has_index a (a.hi -ℤ pos 1)) (has_vector g (lasts g)) (has_dense a (a.hi -ℤ pos 1) one (omega (arith, ints)) (omega (arith, ints)))
    (last_in g (All-tail (λ (a : Grid1). a.step ≡ pos 1) a g dense) parts.1)

low_bound : (z : ℤ) → FitsSigned w32 z → IsBound z
low_bound (pos n) h = record { least = omega (arith, ints); most = let s = h.sfits in omega (arith, ints) }
low_bound (negsuc n) h = record { least = let s = h.sfits in omega (arith, ints); most = omega (arith, ints) }

high_bound : (z y : ℤ) → y ≡ z -ℤ pos 1 → FitsSigned w32 y → IsBound z
high_bound z (pos n) e h = record { least = omega (arith, ints); most = let s = h.sfits in omega (arith, ints) }
high_bound z (negsuc n) e h = record { least = let s = h.sfits in omega (arith, ints); most = omega (arith, ints) }

module _ (g : List Grid1) (dense : All (λ (a : Grid1). a.step ≡ pos 1) g) (words : (index : List ℤ) → has_vector g index ≡ true → All (FitsSigned w32) index) (some : is_empty_box (box_range g) ≡ false) where
  pub lows_bound : All IsBound (lows g)
  lows_bound = by g (words (lows g) (low_in g dense some))
    where
      by : (g : List Grid1) → All (FitsSigned w32) (lows g) → All IsBound (lows g)
      by [] h = All-nil IsBound
      by (a ∷ g) h = All-cons IsBound a.lo (lows g) (low_bound a.lo (All-head (FitsSigned w32) a.lo (lows g) h)) (by g (All-tail (FitsSigned w32) a.lo (lows g) h))

  pub highs_bound : All IsBound (map (λ (a : Grid1). a.hi) g)
  highs_bound = by g (words (lasts g) (last_in g dense some))
    where
      by : (g : List Grid1) → All (FitsSigned w32) (lasts g) → All IsBound (map (λ (a : Grid1). a.hi) g)
      by [] h = All-nil IsBound
      by (a ∷ g) h = All-cons IsBound a.hi (map (λ (a : Grid1). a.hi) g) (high_bound a.hi (a.hi -ℤ pos 1) refl (All-head (FitsSigned w32) (a.hi -ℤ pos 1) (lasts g) h)) (by g (All-tail (FitsSigned w32) (a.hi -ℤ pos 1) (lasts g) h))

-- ---- the range of the box

pub range_is : (g : List Grid1) → axes (map (λ (a : Grid1). a.lo) g) (map (λ (a : Grid1). a.hi) g) (replicate (length g) (pos 1)) (replicate (length g) (pos 1)) ≡ box_range g
range_is [] = refl
range_is (a ∷ g) = ap (λ r. record { lower = a.lo; upper = a.hi; step = pos 1; width = pos 1 } ∷ r) (range_is g)

pub box_extents : (g : List Grid1) → map (λ (s : WithLoops.Span). s.extent) (map span_of (box_range g)) ≡ grid_extents g
box_extents [] = refl
box_extents (a ∷ g) = ap (λ ns. distance (a.hi -ℤ a.lo) ∷ ns) (box_extents g)

-- The members of a frame as offsets from its lowest one.
use Rattle.std.proofs.Common.{◌≡◌, ℕ, zero, suc, ◌+◌, ◌*◌, ◌%◌, ◌/◌, ◌<◌, ◌≤◌, List, [], ◌∷◌, ◌++◌, length, get_or, drop, map, Bool, true, false, refl, sym, ap, ◌∙◌, subst, arith, ℤ, pos, negsuc, ◌+ℤ◌, ◌-ℤ◌, ◌≤ℤ◌, ◌<ℤ◌, All, FitsSigned, w64, true≢false, append_assoc, append-nil, mul_comm}
use Rattle.std.specs.Prelude.{flat_map, not, ◌||◌, int_lt, unsigned_abs}
use Rattle.std.specs.Int.{IsNonNegative}
use Rattle.std.proofs.lemmas.Int.{ints}
use Rattle.std.proofs.lemmas.List.{drop_more, drop_all, get_or-map, length-map, map-append}
use Rattle.std.proofs.lemmas.List.Elements.{All-head, All-tail, All-nil, All-cons, All-get_or}
use Rattle.std.proofs.lemmas.Nat.{mod_below, div_below}
use Rattle.std.proofs.Math.Nat.{suc-mul}
use Rattle.sac_base.specs.Arrays.{size, MOST}
use Rattle.sac_base.specs.Shapes.{AreNatural}
use Rattle.sac_base.specs.declared.grid.Grid1.{Grid1}
use Rattle.sac_base.specs.Grids.{members}
use Rattle.sac_base.specs.WithLoops.{box, box_size, distance, is_empty_box, numbers_from, shape_spans, span_of}
use Rattle.array_with_loops.specs.Frames.{added, spans}
use Rattle.array_with_loops.specs.GridFrames.{box_range, grid_extents}
use Rattle.array_with_loops.specs.Ranges.{moved_last}
use Rattle.array_with_loops.proofs.FrameSteps.{box_at, length-box, vector_in}
use Rattle.array_with_loops.proofs.GridSteps.{members_box}
use Rattle.loop_code.specs.Offsets.{HasBounds, IsOffset, lowest_of, shifted}

-- ---- sums

length_added : (ls vs : List ℤ) → length ls ≡ length vs → length (added ls vs) ≡ length ls
length_added [] [] e = refl
length_added [] (v ∷ vs) e = absurd (omega arith)
length_added (l ∷ ls) [] e = absurd (omega arith)
length_added (l ∷ ls) (v ∷ vs) e = ap suc (length_added ls vs (omega arith))

sum_at : (ls vs : List ℤ) (k : ℕ) (d : ℤ) → length ls ≡ length vs → k < length ls → get_or (added ls vs) k d ≡ get_or ls k d +ℤ get_or vs k d
sum_at [] vs k d e h = absurd (omega arith)
sum_at (l ∷ ls) [] k d e h = absurd (omega arith)
sum_at (l ∷ ls) (v ∷ vs) zero d e h = refl
sum_at (l ∷ ls) (v ∷ vs) (suc k) d e h = sum_at ls vs k d (omega arith) (omega arith)

pub sum_fits : (ls vs : List ℤ) (k : ℕ) → IsOffset ls vs → k < length ls → FitsSigned w64 (get_or ls k (pos 0) +ℤ get_or vs k (pos 0))
sum_fits ls vs k o h =
    subst (FitsSigned w64) (sum_at ls vs k (pos 0) o.rank h)
    (All-get_or (FitsSigned w64) (added ls vs) k (pos 0) (subst (λ n. k < n) (sym (length_added ls vs o.rank)) h) o.fits)

pub sum_next : (ls vs done all : List ℤ) (k : ℕ) (x : ℤ) → length ls ≡ length vs → k < length ls → x ≡ get_or ls k (pos 0) +ℤ get_or vs k (pos 0)
    → done ++ added (drop k ls) (drop k vs) ≡ all → (done ++ x ∷ []) ++ added (drop (k + 1) ls) (drop (k + 1) vs) ≡ all
sum_next ls vs done all k x e h ex left =
    append_assoc done (x ∷ []) (added (drop (k + 1) ls) (drop (k + 1) vs))
    ∙ ap (λ z. done ++ z ∷ added (drop (k + 1) ls) (drop (k + 1) vs)) ex
    ∙ ap (λ zs. done ++ zs) (sym (ap (λ xs. added xs (drop k vs)) (drop_more ls k (pos 0) h) ∙ ap (λ xs. added (get_or ls k (pos 0) ∷ drop (k + 1) ls) xs) (drop_more vs k (pos 0) (omega (arith, e, h)))))
    ∙ left

pub sum_last : (ls vs done all : List ℤ) (k : ℕ) → length ls ≤ k → done ++ added (drop k ls) (drop k vs) ≡ all → done ≡ all
sum_last ls vs done all k h left = sym (append-nil done) ∙ ap (λ xs. done ++ xs) (sym (ap (λ xs. added xs (drop k vs)) (drop_all k ls h) ∙ none (drop k vs))) ∙ left
  where
    none : (zs : List ℤ) → added [] zs ≡ []
    none [] = refl
    none (z ∷ zs) = refl

-- further along a row
moved_sum : (ls vs : List ℤ) (j : ℕ) → length ls ≡ length vs → added ls (moved_last j vs) ≡ moved_last j (added ls vs)
moved_sum [] [] j e = refl
moved_sum [] (v ∷ vs) j e = absurd (omega arith)
moved_sum (l ∷ ls) [] j e = absurd (omega arith)
moved_sum (l ∷ []) (v ∷ []) j e = ap (λ z. z ∷ []) (by l v j)
  where
    by : (l v : ℤ) (j : ℕ) → l +ℤ (v +ℤ pos j) ≡ (l +ℤ v) +ℤ pos j
    by l v j = omega (arith, ints)
moved_sum (l ∷ []) (v ∷ w ∷ vs) j e = absurd (omega arith)
moved_sum (l ∷ m ∷ ls) (v ∷ []) j e = absurd (omega arith)
moved_sum (l ∷ m ∷ ls) (v ∷ w ∷ vs) j e = ap (λ zs. (l +ℤ v) ∷ zs) (moved_sum (m ∷ ls) (w ∷ vs) j (omega arith))

pub offset_at : (ls : List ℤ) (os : List (List ℤ)) (k : ℕ) → All (IsOffset ls) os → k < length os → IsOffset ls (get_or os k [])
offset_at ls os k each h = All-get_or (IsOffset ls) os k [] h each

pub shifted_at : (ls : List ℤ) (os : List (List ℤ)) (k : ℕ) → k < length os → get_or (shifted ls os) k [] ≡ added ls (get_or os k [])
shifted_at ls os k h = get_or-map (added ls) os k [] [] h

pub shifted_none : (ls : List ℤ) (os : List (List ℤ)) → os ≡ [] → shifted ls os ≡ []
shifted_none ls os e = ap (shifted ls) e

pub shifted_along : (ls : List ℤ) (os : List (List ℤ)) (p q j : ℕ) → All (IsOffset ls) os → p < length os → q < length os → get_or os q [] ≡ moved_last j (get_or os p [])
    → get_or (shifted ls os) q [] ≡ moved_last j (get_or (shifted ls os) p [])
shifted_along ls os p q j each hp hq along =
    let here = offset_at ls os p each hp in
    shifted_at ls os q hq ∙ ap (added ls) along ∙ moved_sum ls (get_or os p []) j here.rank ∙ ap (moved_last j) (sym (shifted_at ls os p hp))

-- ---- the box

shifted_block : (l z y : ℤ) (ls : List ℤ) (rest : List (List ℤ)) → l +ℤ z ≡ y → shifted (l ∷ ls) (map (λ w. z ∷ w) rest) ≡ map (λ w. y ∷ w) (shifted ls rest)
shifted_block l z y ls [] e = refl
shifted_block l z y ls (w ∷ rest) e = (λ i. (e i ∷ added ls w) ∷ shifted_block l z y ls rest e i)

shifted_blocks : (l z y : ℤ) (ls : List ℤ) (rest : List (List ℤ)) (n : ℕ) → l +ℤ z ≡ y
    → shifted (l ∷ ls) (flat_map (λ v. map (λ w. v ∷ w) rest) (numbers_from z n)) ≡ flat_map (λ v. map (λ w. v ∷ w) (shifted ls rest)) (numbers_from y n)
shifted_blocks l z y ls rest zero e = refl
shifted_blocks l z y ls rest (suc n) e =
    map-append (added (l ∷ ls)) (map (λ w. z ∷ w) rest) (flat_map (λ v. map (λ w. v ∷ w) rest) (numbers_from (z +ℤ pos 1) n))
    ∙ ap (λ xs. xs ++ shifted (l ∷ ls) (flat_map (λ v. map (λ w. v ∷ w) rest) (numbers_from (z +ℤ pos 1) n))) (shifted_block l z y ls rest e)
    ∙ ap (λ xs. map (λ w. y ∷ w) (shifted ls rest) ++ xs) (shifted_blocks l (z +ℤ pos 1) (y +ℤ pos 1) ls rest n (omega (arith, ints, e)))

shifted_box : (ls : List ℤ) (ns : List ℕ) → length ls ≡ length ns → shifted ls (box (shape_spans ns)) ≡ box (spans ls ns)
shifted_box [] [] e = refl
shifted_box [] (n ∷ ns) e = absurd (omega arith)
shifted_box (l ∷ ls) [] e = absurd (omega arith)
shifted_box (l ∷ ls) (n ∷ ns) e =
    shifted_blocks l (pos 0) l ls (box (shape_spans ns)) n (omega (arith, ints))
    ∙ ap (λ rest. flat_map (λ v. map (λ w. v ∷ w) rest) (numbers_from l n)) (shifted_box ls ns (omega arith))

grid_box : (g : List Grid1) → map span_of (box_range g) ≡ spans (lowest_of g) (grid_extents g)
grid_box [] = refl
grid_box (a ∷ g) = ap (λ ss. record { low = a.lo; extent = distance (a.hi -ℤ a.lo) } ∷ ss) (grid_box g)

ranks : (g : List Grid1) → length (lowest_of g) ≡ length (grid_extents g)
ranks [] = refl
ranks (a ∷ g) = ap suc (ranks g)

pub shifted_members : (g : List Grid1) → All (λ (a : Grid1). a.step ≡ pos 1) g → shifted (lowest_of g) (box (shape_spans (grid_extents g))) ≡ members g
shifted_members g dense = shifted_box (lowest_of g) (grid_extents g) (ranks g) ∙ ap box (sym (grid_box g)) ∙ sym (members_box g dense)

-- ---- each sum has 64 bits

fit : (x lo hi : ℤ) → FitsSigned w64 lo → FitsSigned w64 hi → lo ≤ℤ x → x ≤ℤ hi → FitsSigned w64 x
fit (pos n) lo (pos m) a b l h = let f = b.sfits in record { sfits = omega (arith, ints, f) }
fit (pos n) lo (negsuc m) a b l h = absurd (omega (arith, ints))
fit (negsuc n) (negsuc m) hi a b l h = let f = a.sfits in record { sfits = omega (arith, ints, f) }
fit (negsuc n) (pos m) hi a b l h = absurd (omega (arith, ints))

below_distance : (d : ℤ) (q : ℕ) → q < distance d → pos q <ℤ d
below_distance (pos n) q h = omega (arith, ints)
below_distance (negsuc n) q h = absurd (omega arith)

between : (a : Grid1) (q : ℕ) → HasBounds a → q < distance (a.hi -ℤ a.lo) → FitsSigned w64 (a.lo +ℤ (pos 0 +ℤ pos q))
between a q bounds h =
    let below = below_distance (a.hi -ℤ a.lo) q h in
    fit (a.lo +ℤ (pos 0 +ℤ pos q)) a.lo a.hi bounds.low bounds.high (omega (arith, ints)) (omega (arith, ints))

positive : (a m p : ℕ) → p < a * m → 0 < m
positive a zero p h = absurd (omega arith)
positive a (suc m) p h = omega arith

is_offset : (g : List Grid1) (p : ℕ) → All HasBounds g → p < box_size (shape_spans (grid_extents g)) → IsOffset (lowest_of g) (vector_in (shape_spans (grid_extents g)) p)
is_offset [] p bounds h = record { rank = refl; fits = All-nil (FitsSigned w64) }
is_offset (a ∷ g) p bounds h =
    let n = distance (a.hi -ℤ a.lo) in
    let s = box_size (shape_spans (grid_extents g)) in
    let some = positive n s p h in
    let inner = is_offset g (p % s) (All-tail HasBounds a g bounds) (mod_below p s some) in
    record {
      rank = ap suc inner.rank;
      fits = All-cons (FitsSigned w64) (a.lo +ℤ (pos 0 +ℤ pos (p / s))) (added (lowest_of g) (vector_in (shape_spans (grid_extents g)) (p % s)))
          (between a (p / s) (All-head HasBounds a g bounds) (div_below p s n some h)) inner.fits;
    }

pub are_offsets : (g : List Grid1) → All HasBounds g → All (IsOffset (lowest_of g)) (box (shape_spans (grid_extents g)))
are_offsets g bounds p d h =
    let ss = shape_spans (grid_extents g) in
    let inside = subst (λ n. p < n) (length-box ss) h in
    subst (IsOffset (lowest_of g)) (sym (box_at ss p d inside)) (is_offset g p bounds inside)

-- ---- extents

pub record IsSmall (a : Grid1) : Type 0 where
  pub some : a.lo <ℤ a.hi
  pub most : distance (a.hi -ℤ a.lo) ≤ MOST

or_false : (a b : Bool) → (a || b) ≡ false → (a ≡ false) × (b ≡ false)
or_false true b e = absurd (true≢false e)
or_false false b e = (refl, e)

is_below : (a : Grid1) → not (int_lt a.lo a.hi) ≡ false → a.lo <ℤ a.hi
is_below a e = by (int_lt a.lo a.hi) refl e
  where
    by : (t : Bool) → int_lt a.lo a.hi ≡ t → not t ≡ false → a.lo <ℤ a.hi
    by true f e = grind (arith, ints)
    by false f e = absurd (true≢false e)

some_distance : (d : ℤ) → pos 0 <ℤ d → 1 ≤ distance d
some_distance (pos n) h = omega (arith, ints)
some_distance (negsuc n) h = absurd (omega (arith, ints))

grows : (e s : ℕ) → 1 ≤ e → s ≤ e * s
grows zero s h = absurd (omega arith)
grows (suc e) s h = omega (arith, suc-mul e s)

grows_left : (e s : ℕ) → 1 ≤ s → e ≤ e * s
grows_left e s h = omega (arith, grows s e h, mul_comm s e)

some_size : (g : List Grid1) → is_empty_box (box_range g) ≡ false → 1 ≤ size (grid_extents g)
some_size [] e = omega arith
some_size (a ∷ g) e =
    let parts = or_false (not (int_lt a.lo a.hi)) (is_empty_box (box_range g)) e in
    let below = is_below a parts.0 in
    let x = some_distance (a.hi -ℤ a.lo) (omega (arith, ints)) in
    let y = some_size g parts.1 in
    omega (arith, grows (distance (a.hi -ℤ a.lo)) (size (grid_extents g)) x)

pub are_small : (g : List Grid1) → is_empty_box (box_range g) ≡ false → size (grid_extents g) ≤ MOST → All IsSmall g
are_small [] e most = All-nil IsSmall
are_small (a ∷ g) e most =
    let parts = or_false (not (int_lt a.lo a.hi)) (is_empty_box (box_range g)) e in
    let below = is_below a parts.0 in
    let n = distance (a.hi -ℤ a.lo) in
    let s = size (grid_extents g) in
    let x = some_distance (a.hi -ℤ a.lo) (omega (arith, ints)) in
    let y = some_size g parts.1 in
    All-cons IsSmall a g (record { some = below; most = omega (arith, grows_left n s y, most) }) (are_small g parts.1 (omega (arith, grows n s x, most)))

pub extent_is : (a : Grid1) (n : ℕ) → IsSmall a → n ≡ unsigned_abs (a.hi -ℤ a.lo) → n ≡ distance (a.hi -ℤ a.lo)
extent_is a n small e = e ∙ by (a.hi -ℤ a.lo) (let some = small.some in omega (arith, ints))
  where
    by : (d : ℤ) → pos 0 ≤ℤ d → unsigned_abs d ≡ distance d
    by (pos m) h = refl
    by (negsuc m) h = absurd (omega (arith, ints))

abbrev pub numbers : List Grid1 → List ℤ
numbers g = map (λ (a : Grid1). pos (distance (a.hi -ℤ a.lo))) g

pub numbers_are : (g : List Grid1) → numbers g ≡ map pos (grid_extents g)
numbers_are [] = refl
numbers_are (a ∷ g) = ap (λ zs. pos (distance (a.hi -ℤ a.lo)) ∷ zs) (numbers_are g)

pub natural : (g : List Grid1) → length g ≤ 8 → AreNatural (numbers g)
natural g h = record { rank = omega (arith, length-map g (λ (a : Grid1). pos (distance (a.hi -ℤ a.lo)))); each = each g }
  where
    each : (g : List Grid1) → All IsNonNegative (numbers g)
    each [] = All-nil IsNonNegative
    each (a ∷ g) = All-cons IsNonNegative (pos (distance (a.hi -ℤ a.lo))) (numbers g) tt (each g)

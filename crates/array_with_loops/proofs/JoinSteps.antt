-- The least box that holds the boxes of ranges.
use Rattle.std.proofs.Common.{◌≡◌, ℕ, zero, suc, ◌+◌, ◌*◌, ◌<◌, ◌≤◌, List, [], ◌∷◌, length, get_or, drop, map, Bool, true, false, T, refl, sym, ap, ◌∙◌, subst, arith, ℤ, pos, negsuc, ◌+ℤ◌, ◌-ℤ◌, ◌<ℤ◌, ◌≤ℤ◌, All, FitsSigned, w32, Option, Some, None, true≢false, cond, mul_comm}
use Rattle.std.specs.Prelude.{int_lt, not, ◌||◌, filter, fold, nat_le, if◌then◌else◌, IfSome}
use Rattle.std.specs.Int.{int_min, int_max, IsNonNegative}
use Rattle.std.specs.Int.Signed.{lt_z_yes}
use Rattle.std.proofs.lemmas.Int.{ints, clamps}
use Rattle.std.proofs.lemmas.List.{drop_more, length-map}
use Rattle.std.proofs.lemmas.Bool.Decides.{nat_tests}
use Rattle.std.proofs.Math.Nat.{suc-mul}
use Rattle.std.proofs.lemmas.List.Elements.{All-head, All-tail, All-nil, All-cons}
use lib.IntN.{nat_abs}
use Rattle.sac_base.specs.Arrays.{size, MOST}
use Rattle.sac_base.specs.Shapes.{AreNatural}
use Rattle.sac_base.specs.WithLoops.{Axis, Range, Span, span_of, box_size, distance, is_empty_box, joined_axis, joined_range, fold_frame}
use Rattle.array_with_loops.specs.Ranges.{IsAxis, is_empty_axis}
use Rattle.array_with_loops.specs.Frames.{spans, EachFits, IsFrame, frame_with, range_with, joined_next, IsSomeBox}
use Rattle.array_with_loops.proofs.RangeSteps.{lt_true, some_extent}

or_false : (a b : Bool) → (a || b) ≡ false → (a ≡ false) × (b ≡ false)
or_false true b e = absurd (true≢false e)
or_false false b e = (refl, e)

some_below : (a b : ℤ) → not (int_lt a b) ≡ false → a <ℤ b
some_below a b e = by (int_lt a b) refl
  where
    by : (t : Bool) → int_lt a b ≡ t → a <ℤ b
    by true f = lt_z_yes (subst T (sym f) tt)
    by false f = absurd (true≢false (ap not (sym f) ∙ e))

join_some : (a b : Axis) → is_empty_axis a ≡ false → is_empty_axis (joined_axis a b) ≡ false
join_some a b e =
    let lt = some_below a.lower a.upper e in
    let joined : int_min a.lower b.lower <ℤ int_max a.upper b.upper = omega (arith, ints, clamps) in
    ap not (lt_true (int_min a.lower b.lower) (int_max a.upper b.upper) joined)

join_box_some : (r s : Range) → is_empty_box r ≡ false → is_empty_box (joined_range r s) ≡ false
join_box_some [] [] e = refl
join_box_some [] (b ∷ s) e = refl
join_box_some (a ∷ r) [] e = refl
join_box_some (a ∷ r) (b ∷ s) e =
    let parts = or_false (is_empty_axis a) (is_empty_box r) e in
    ap (λ t. t || is_empty_box (joined_range r s)) (join_some a b parts.0) ∙ join_box_some r s parts.1

join_length : (r s : Range) → length (joined_range r s) ≤ length r
join_length [] [] = omega arith
join_length [] (b ∷ s) = omega arith
join_length (a ∷ r) [] = omega arith
join_length (a ∷ r) (b ∷ s) = let h = join_length r s in omega arith

kept_by : (r : Range) (rest : List Range) (t : Bool) → is_empty_box r ≡ t → filter (λ r. not (is_empty_box r)) (r ∷ rest) ≡ (if t then filter (λ r. not (is_empty_box r)) rest else r ∷ filter (λ r. not (is_empty_box r)) rest)
kept_by r rest true e = ap (λ b. cond (not b) (r ∷ filter (λ r. not (is_empty_box r)) rest) (filter (λ r. not (is_empty_box r)) rest)) e
kept_by r rest false e = ap (λ b. cond (not b) (r ∷ filter (λ r. not (is_empty_box r)) rest) (filter (λ r. not (is_empty_box r)) rest)) e

frame_cons : (o : Option Range) (r : Range) (rest : List Range) → frame_with o (r ∷ rest) ≡ frame_with (joined_next o r) rest
frame_cons o r rest = by (is_empty_box r) refl o
  where
    by : (t : Bool) → is_empty_box r ≡ t → (o : Option Range) → frame_with o (r ∷ rest) ≡ frame_with (if t then o else Some (range_with o r)) rest
    by true e None = ap fold_frame (kept_by r rest true e)
    by true e (Some before) = ap (λ rs. map span_of (fold joined_range before rs)) (kept_by r rest true e)
    by false e None = ap fold_frame (kept_by r rest false e)
    by false e (Some before) = ap (λ rs. map span_of (fold joined_range before rs)) (kept_by r rest false e)

pub frame_step : (rs : List Range) (k : ℕ) (o next : Option Range) (r : Range) → k < length rs → r ≡ get_or rs k r → next ≡ joined_next o r → frame_with next (drop (k + 1) rs) ≡ frame_with o (drop k rs)
frame_step rs k o next r h e en =
    ap (λ o. frame_with o (drop (k + 1) rs)) en ∙ sym (frame_cons o r (drop (k + 1) rs))
    ∙ ap (λ x. frame_with o (x ∷ drop (k + 1) rs)) e ∙ ap (frame_with o) (sym (drop_more rs k r h))

pub box_next : (o next : Option Range) (r : Range) → IfSome o IsSomeBox → length r ≤ 8 → next ≡ joined_next o r → IfSome next IsSomeBox
box_next o next r some rank e = subst (λ n. IfSome n IsSomeBox) (sym e) (by (is_empty_box r) refl o some)
  where
    by : (t : Bool) → is_empty_box r ≡ t → (o : Option Range) → IfSome o IsSomeBox → IfSome (if t then o else Some (range_with o r)) IsSomeBox
    by true f o some = some
    by false f None some = record { some = f; rank = rank }
    by false f (Some before) some = record { some = join_box_some before r some.some; rank = let h = join_length before r in let k = some.rank in omega arith }

-- ---- a box that is not empty

grows : (e s : ℕ) → 1 ≤ e → s ≤ e * s
grows zero s h = absurd (omega arith)
grows (suc e) s h = omega (arith, suc-mul e s)

grows_left : (e s : ℕ) → 1 ≤ s → e ≤ e * s
grows_left e s h = omega (arith, grows s e h, mul_comm s e)

pub size_some : (r : Range) → is_empty_box r ≡ false → 1 ≤ box_size (map span_of r)
size_some [] e = omega arith
size_some (a ∷ r) e =
    let parts = or_false (is_empty_axis a) (is_empty_box r) e in
    let x = some_extent a parts.0 in
    let y = size_some r parts.1 in
    omega (arith, grows (span_of a).extent (box_size (map span_of r)) x)

extent_below : (r : Range) (k : ℕ) (d : Axis) → is_empty_box r ≡ false → k < length r → (span_of (get_or r k d)).extent ≤ box_size (map span_of r)
extent_below [] k d e h = absurd (omega arith)
extent_below (a ∷ r) zero d e h =
    let parts = or_false (is_empty_axis a) (is_empty_box r) e in
    let y = size_some r parts.1 in
    grows_left (span_of a).extent (box_size (map span_of r)) y
extent_below (a ∷ r) (suc k) d e h =
    let parts = or_false (is_empty_axis a) (is_empty_box r) e in
    let x = some_extent a parts.0 in
    let inner = extent_below r k d parts.1 (omega arith) in
    omega (arith, grows (span_of a).extent (box_size (map span_of r)) x)

pub too_many : (r : Range) (k x : ℕ) (a : Axis) → is_empty_box r ≡ false → k < length r → a ≡ get_or r k a → x ≡ (span_of a).extent → MOST < x → false ≡ nat_le (box_size (map span_of r)) MOST
too_many r k x a e h ea ex most =
    let below = subst (λ (b : Axis). (span_of b).extent ≤ box_size (map span_of r)) (sym ea) (extent_below r k a e h) in
    let all : MOST < box_size (map span_of r) = omega (arith, ex) in
    grind (arith, nat_tests)

pub lower_fits : (a : Axis) → IsAxis a → is_empty_axis a ≡ false → FitsSigned w32 a.lower
lower_fits a is e = fits a.lower is.lower.least (some_below a.lower a.upper e)
  where
    fits : (l : ℤ) → negsuc 2147483647 ≤ℤ l → l <ℤ a.upper → FitsSigned w32 l
    fits (pos n) least lt = record { sfits = omega (arith, ints, is.upper.most) }
    fits (negsuc n) least lt = record { sfits = omega (arith, ints) }

pub spans_of : (r : Range) → spans (map (λ (a : Axis). a.lower) r) (map (λ (a : Axis). (span_of a).extent) r) ≡ map span_of r
spans_of [] = refl
spans_of (a ∷ r) = ap (λ ss. span_of a ∷ ss) (spans_of r)

pub extents_of : (r : Range) → map (λ (s : Span). s.extent) (map span_of r) ≡ map (λ (a : Axis). (span_of a).extent) r
extents_of [] = refl
extents_of (a ∷ r) = ap (λ ns. (span_of a).extent ∷ ns) (extents_of r)

distance_is : (d : ℤ) → pos 0 ≤ℤ d → pos (distance d) ≡ d
distance_is (pos n) h = refl
distance_is (negsuc n) h = absurd (omega (arith, ints))

pub box_fits : (r : Range) → All IsAxis r → is_empty_box r ≡ false → EachFits (map (λ (a : Axis). a.lower) r) (map (λ (a : Axis). (span_of a).extent) r)
box_fits [] each e = tt
box_fits (a ∷ r) each e =
    let parts = or_false (is_empty_axis a) (is_empty_box r) e in
    let mine = All-head IsAxis a r each in
    let lt = some_below a.lower a.upper parts.0 in
    let up : a.lower +ℤ pos (distance (a.upper -ℤ a.lower)) ≡ a.upper = ap (λ z. a.lower +ℤ z) (distance_is (a.upper -ℤ a.lower) (omega (arith, ints))) ∙ omega (arith, ints) in
    (subst (λ z. z ≤ℤ pos 2147483648) (sym up) mine.upper.most, box_fits r (All-tail IsAxis a r each) parts.1)

pub map_pos_same : (ms ns : List ℕ) → map pos ms ≡ map pos ns → ms ≡ ns
map_pos_same ms ns e = sym (back ms) ∙ ap (map nat_abs) e ∙ back ns
  where
    back : (ks : List ℕ) → map nat_abs (map pos ks) ≡ ks
    back [] = refl
    back (k ∷ ks) = ap (λ js. k ∷ js) (back ks)

pub pos_map : (r : Range) → map (λ (a : Axis). pos (span_of a).extent) r ≡ map pos (map (λ (a : Axis). (span_of a).extent) r)
pos_map [] = refl
pos_map (a ∷ r) = ap (λ zs. pos (span_of a).extent ∷ zs) (pos_map r)

pub box_size_of : (r : Range) → box_size (map span_of r) ≡ size (map (λ (a : Axis). (span_of a).extent) r)
box_size_of r = ap size (extents_of r)

pub frame_of_box : (r : Range) (low : List ℤ) (ext : List ℕ) (count : ℕ) → All IsAxis r → is_empty_box r ≡ false → low ≡ map (λ (a : Axis). a.lower) r → ext ≡ map (λ (a : Axis). (span_of a).extent) r → size ext ≤ MOST → count ≡ size ext → IsFrame low ext count
frame_of_box r low ext count each some el ee most ec = record {
  ranks = ap length el ∙ length-map r (λ (a : Axis). a.lower) ∙ sym (ap length ee ∙ length-map r (λ (a : Axis). (span_of a).extent));
  all = sym ec;
  most = omega (arith, ec);
  fits = subst (λ ls. EachFits ls ext) (sym el) (subst (λ es. EachFits (map (λ (a : Axis). a.lower) r) es) (sym ee) (box_fits r each some));
}

pub fits_most : (n : ℕ) → n ≤ MOST → true ≡ nat_le n MOST
fits_most n h = grind (arith, nat_tests)

pub passes_most : (n : ℕ) → (n ≤ MOST → ⊥) → false ≡ nat_le n MOST
passes_most n h = let more : MOST < n = omega arith in grind (arith, nat_tests)

pub natural_extents : (r : Range) → length r ≤ 8 → AreNatural (map (λ (a : Axis). pos (span_of a).extent) r)
natural_extents r h = record { rank = omega (arith, length-map r (λ (a : Axis). pos (span_of a).extent)); each = each r }
  where
    each : (r : Range) → All IsNonNegative (map (λ (a : Axis). pos (span_of a).extent) r)
    each [] = All-nil IsNonNegative
    each (a ∷ r) = All-cons IsNonNegative (pos (span_of a).extent) (map (λ (a : Axis). pos (span_of a).extent) r) tt (each r)

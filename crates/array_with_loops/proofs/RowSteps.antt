-- Indices along a row.
use Rattle.std.proofs.Common.{◌≡◌, ℕ, zero, suc, ◌+◌, ◌-◌, ◌*◌, ◌%◌, ◌/◌, ◌<◌, ◌≤◌, List, [], ◌∷◌, length, get_or, refl, sym, ap, ◌∙◌, subst, arith, ℤ, pos, negsuc, ◌+ℤ◌, ◌-ℤ◌, ◌<ℤ◌, ◌≤ℤ◌, Bool, true, false, ltb, T, mul_assoc, map, drop, All, ◌^◌, to_z, of_z, w32, w64, FitsSigned}
use lib.IntN.{nat_abs}
use Rattle.std.proofs.lemmas.List.{drop_more, drop_all}
use Rattle.std.specs.Prelude.{int_le, int_lt, ◌&&◌}
use Rattle.std.specs.Int.{int_rem_euclid}
use Rattle.std.proofs.lemmas.Bool.Decides.{nat_tests}
use Rattle.std.proofs.lemmas.Int.{ints, to_z-of_z}
use Rattle.std.proofs.lemmas.Nat.{mod_below, div_below, div-mul-add, mod-mul-add}
use Rattle.std.proofs.Math.Nat.{mod-mod_of_dvd, dvd-mul_left, mod-add-div', mul-le-mul_left, mod-add-div}
use Rattle.sac_base.specs.Arrays.{size}
use Rattle.sac_base.specs.Places.{vector_at}
use Rattle.sac_base.specs.WithLoops.{Axis, Range, holds, holds_at, distance}
use Rattle.array_with_loops.proofs.RangeSteps.{held, bound_kept}
use Rattle.array_with_loops.proofs.FrameSteps.{extent_read}
use Rattle.array_with_loops.specs.Frames.{added, IsFrame}
use Rattle.array_with_loops.specs.Ranges.{IsBound, moved_last}

-- the innermost extent, and how many rows of it there are
abbrev pub row_extent : List ℕ → ℕ
row_extent [] = 1
row_extent (n ∷ []) = n
row_extent (n ∷ m ∷ ns) = row_extent (m ∷ ns)

abbrev rows : List ℕ → ℕ
rows [] = 1
rows (n ∷ []) = 1
rows (n ∷ m ∷ ns) = n * rows (m ∷ ns)

pub row_read : (ns : List ℕ) (k : ℕ) → length ns ≡ k + 1 → get_or ns k 0 ≡ row_extent ns
row_read [] k h = absurd (omega arith)
row_read (n ∷ []) zero h = refl
row_read (n ∷ []) (suc k) h = absurd (omega arith)
row_read (n ∷ m ∷ ns) zero h = absurd (omega arith)
row_read (n ∷ m ∷ ns) (suc k) h = row_read (m ∷ ns) k (omega arith)

size_rows : (ns : List ℕ) → size ns ≡ rows ns * row_extent ns
size_rows [] = refl
size_rows (n ∷ []) = omega arith
size_rows (n ∷ m ∷ ns) = ap (λ x. n * x) (size_rows (m ∷ ns)) ∙ sym (mul_assoc n (rows (m ∷ ns)) (row_extent (m ∷ ns)))

some_row : (a b p : ℕ) → p < a * b → 0 < b
some_row a zero p h = absurd (omega arith)
some_row a (suc b) p h = omega arith

-- the end of a row is no further than that of all
row_ends : (q e r j : ℕ) → r < q * e → j < e - r % e → r + j < q * e
row_ends q e r j h k =
    let some = some_row q e r h in
    let below = div_below r e q some h in
    omega (arith, mul-le-mul_left {m = r / e + 1} {n = q} e (omega arith), mod-add-div r e, mul_comm' q e)
  where
    mul_comm' : (a b : ℕ) → a * b ≡ b * a
    mul_comm' a b = grind arith

pub row_inside : (ns : List ℕ) (p j : ℕ) → p < size ns → j < row_extent ns - p % row_extent ns → p + j < size ns
row_inside ns p j h k = subst (λ x. p + j < x) (sym (size_rows ns)) (row_ends (rows ns) (row_extent ns) p j (subst (λ x. p < x) (size_rows ns) h) k)

pub row_some : (ns : List ℕ) (p : ℕ) → p < size ns → 0 < row_extent ns
row_some ns p h = some_row (rows ns) (row_extent ns) p (subst (λ x. p < x) (size_rows ns) h)

-- further in a row the outer parts of a place stay
quotient_stays : (m p j : ℕ) → p % m + j < m → (p + j) / m ≡ p / m
quotient_stays m p j h = ap (λ x. x / m) (split m p j) ∙ div-mul-add (p / m) m (p % m + j) h
  where
    split : (m p j : ℕ) → p + j ≡ p / m * m + (p % m + j)
    split m p j = omega (arith, mod-add-div' p m)

rest_moves : (m p j : ℕ) → p % m + j < m → (p + j) % m ≡ p % m + j
rest_moves m p j h = ap (λ x. x % m) (split m p j) ∙ mod-mul-add (p / m) m (p % m + j) h
  where
    split : (m p j : ℕ) → p + j ≡ p / m * m + (p % m + j)
    split m p j = omega (arith, mod-add-div' p m)

by_one : (l : ℤ) (p j : ℕ) → l +ℤ pos ((p + j) / 1) ≡ (l +ℤ pos (p / 1)) +ℤ pos j
by_one l p j = let a : (p + j) / 1 ≡ p + j = omega arith in let b : p / 1 ≡ p = omega arith in omega (arith, ints)

pub along_row : (ls : List ℤ) (ns : List ℕ) (p j : ℕ) → length ls ≡ length ns → p < size ns → j < row_extent ns - p % row_extent ns → added ls (vector_at ns (p + j)) ≡ moved_last j (added ls (vector_at ns p))
along_row [] [] p j e h k = refl
along_row [] (n ∷ ns) p j e h k = absurd (omega arith)
along_row (l ∷ ls) [] p j e h k = absurd (omega arith)
along_row (l ∷ []) (n ∷ []) p j e h k = ap (λ z. z ∷ []) (by_one l p j)
along_row (l ∷ []) (n ∷ m ∷ ns) p j e h k = absurd (omega arith)
along_row (l ∷ l2 ∷ ls) (n ∷ []) p j e h k = absurd (omega arith)
along_row (l ∷ l2 ∷ ls) (n ∷ m ∷ ns) p j e h k =
    let s = size (m ∷ ns) in
    let x = row_extent (m ∷ ns) in
    let some = some_row n s p h in
    let low = mod_below p s some in
    let same : p % s % x ≡ p % x = subst (λ y. p % y % x ≡ p % x) (sym (size_rows (m ∷ ns))) (mod-mod_of_dvd x p (dvd-mul_left x (rows (m ∷ ns)))) in
    let near : j < x - p % s % x = subst (λ y. j < x - y) (sym same) k in
    let inside = row_inside (m ∷ ns) (p % s) j low near in
    ap (λ q. (l +ℤ pos q) ∷ added (l2 ∷ ls) (vector_at (m ∷ ns) ((p + j) % s))) (quotient_stays s p j inside)
    ∙ ap (λ r. (l +ℤ pos (p / s)) ∷ added (l2 ∷ ls) (vector_at (m ∷ ns) r)) (rest_moves s p j inside)
    ∙ ap (λ zs. (l +ℤ pos (p / s)) ∷ zs) (along_row (l2 ∷ ls) (m ∷ ns) (p % s) j (omega arith) low near)

-- ---- one component

abbrev axis : ℤ → ℤ → ℕ → ℕ → Axis
axis l u s w = record { lower = l; upper = u; step = pos s; width = pos w }

pub run_held : (o s w j : ℕ) → w < s → j < w - o % s → ltb ((o + j) % s) w ≡ true
run_held o s w j h k = let e = rest_moves s o j (omega arith) in ap (λ x. ltb x w) e ∙ ltb_true (o % s + j) w (omega arith)
  where
    ltb_true : (a b : ℕ) → a < b → ltb a b ≡ true
    ltb_true a b h = grind (arith, nat_tests)

pub run_free : (o s w j : ℕ) → w ≤ o % s → j < s - o % s → ltb ((o + j) % s) w ≡ false
run_free o s w j h k = let e = rest_moves s o j (omega arith) in ap (λ x. ltb x w) e ∙ ltb_false (o % s + j) w (omega arith)
  where
    ltb_false : (a b : ℕ) → b ≤ a → ltb a b ≡ false
    ltb_false a b h = grind (arith, nat_tests)

pub below_free : (a : Axis) (z : ℤ) → z <ℤ a.lower → holds_at a z ≡ false
below_free a z h = by (int_le a.lower z) refl
  where
    by : (b : Bool) → int_le a.lower z ≡ b → holds_at a z ≡ false
    by true e = let le : a.lower ≤ℤ z = record { le = subst T (sym e) tt } in absurd (omega (arith, ints))
    by false e = ap (λ b. b && int_lt z a.upper && int_lt (int_rem_euclid (z -ℤ a.lower) a.step) a.width) e

as_pos : (d : ℤ) → pos 0 ≤ℤ d → pos (distance d) ≡ d
as_pos (pos n) h = refl
as_pos (negsuc n) h = absurd (omega (arith, ints))

-- between the bounds the remainder decides
pub between : (l u v : ℤ) (s w j o : ℕ) → v -ℤ l ≡ pos o → (v +ℤ pos j) <ℤ u → holds_at (axis l u s w) (v +ℤ pos j) ≡ ltb ((o + j) % s) w
between l u v s w j o e h =
    let at : l +ℤ pos (o + j) ≡ v +ℤ pos j = omega (arith, ints) in
    let d = as_pos (u -ℤ l) (omega (arith, ints)) in
    let inside : o + j < distance (u -ℤ l) = omega (arith, ints) in
    ap (holds_at (axis l u s w)) (sym at) ∙ held l u s w (distance (u -ℤ l)) (o + j) refl inside

pub all_held : (l u v : ℤ) (s w j : ℕ) → l ≤ℤ v → (v +ℤ pos j) <ℤ u → 1 ≤ s → s ≤ w → holds_at (axis l u s w) (v +ℤ pos j) ≡ true
all_held l u v s w j low h some le =
    let o = distance (v -ℤ l) in
    let e = sym (as_pos (v -ℤ l) (omega (arith, ints))) in
    between l u v s w j o e h ∙ ltb_true ((o + j) % s) w (omega (arith, mod_below (o + j) s some))
  where
    ltb_true : (a b : ℕ) → a < b → ltb a b ≡ true
    ltb_true a b h = grind (arith, nat_tests)

pub moved_length : (j : ℕ) (v : List ℤ) → length (moved_last j v) ≡ length v
moved_length j [] = refl
moved_length j (v ∷ []) = refl
moved_length j (v ∷ w ∷ vs) = ap suc (moved_length j (w ∷ vs))

pub row_known : (ls : List ℤ) (ns : List ℕ) (items : List ℤ) (count rank a : ℕ) → items ≡ map pos ns → All (λ n. n < 2 ^ 31) ns → IsFrame ls ns count → rank ≡ length ls → (rank ≡ 0 → ⊥)
    → a ≡ nat_abs (to_z w32 (of_z w32 (get_or items (rank - 1) (pos 0)))) → a ≡ row_extent ns
row_known ls ns items count rank a e each frame er some read =
    extent_read ns items (rank - 1) a e each (omega (arith, frame.ranks, er, above rank some)) read ∙ row_read ns (rank - 1) (omega (arith, frame.ranks, er, above rank some))
  where
    above : (n : ℕ) → (n ≡ 0 → ⊥) → 1 ≤ n
    above zero h = absurd (h refl)
    above (suc n) h = omega arith

-- ---- one component of an index after the other

pub moved_step : (r : Range) (v : List ℤ) (k j : ℕ) (a : Axis) (z : ℤ) → k + 1 < length v → length v ≡ length r → a ≡ get_or r k a → z ≡ get_or v k (pos 0)
    → holds (drop k r) (moved_last j (drop k v)) ≡ (holds_at a z && holds (drop (k + 1) r) (moved_last j (drop (k + 1) v)))
moved_step r v k j a z h e ea ez =
    let next = drop_more v (k + 1) (pos 0) h in
    let whole = drop_more v k (pos 0) (omega arith) in
    ap (λ xs. holds xs (moved_last j (drop k v))) (drop_more r k a (omega arith))
    ∙ ap (λ vs. holds (get_or r k a ∷ drop (k + 1) r) (moved_last j vs)) whole
    ∙ ap (λ vs. holds (get_or r k a ∷ drop (k + 1) r) (moved_last j (get_or v k (pos 0) ∷ vs))) next
    ∙ ap (λ vs. holds_at (get_or r k a) (get_or v k (pos 0)) && holds (drop (k + 1) r) (moved_last j vs)) (sym next)
    ∙ ap (λ b. holds_at b (get_or v k (pos 0)) && holds (drop (k + 1) r) (moved_last j (drop (k + 1) v))) (sym ea)
    ∙ ap (λ y. holds_at a y && holds (drop (k + 1) r) (moved_last j (drop (k + 1) v))) (sym ez)

pub moved_end : (r : Range) (v : List ℤ) (k j : ℕ) (a : Axis) (z : ℤ) → k + 1 ≡ length v → length v ≡ length r → a ≡ get_or r k a → z ≡ get_or v k (pos 0)
    → holds (drop k r) (moved_last j (drop k v)) ≡ holds_at a (z +ℤ pos j)
moved_end r v k j a z h e ea ez =
    ap (λ xs. holds xs (moved_last j (drop k v))) (drop_more r k a (omega arith))
    ∙ ap (λ vs. holds (get_or r k a ∷ drop (k + 1) r) (moved_last j vs)) (drop_more v k (pos 0) (omega arith))
    ∙ ap (λ vs. holds (get_or r k a ∷ drop (k + 1) r) (moved_last j (get_or v k (pos 0) ∷ vs))) (drop_all (k + 1) v (omega arith))
    ∙ ap (λ rs. holds_at (get_or r k a) (get_or v k (pos 0) +ℤ pos j) && holds rs []) (drop_all (k + 1) r (omega arith))
    ∙ and_true (holds_at (get_or r k a) (get_or v k (pos 0) +ℤ pos j))
    ∙ ap (λ b. holds_at b (get_or v k (pos 0) +ℤ pos j)) (sym ea) ∙ ap (λ y. holds_at a (y +ℤ pos j)) (sym ez)
  where
    and_true : (b : Bool) → (b && true) ≡ b
    and_true true = refl
    and_true false = refl

-- ---- as the code has them

difference : (d : ℤ) → pos 0 ≤ℤ d → d ≤ℤ pos 4294967296 → pos (nat_abs (to_z w64 (of_z w64 d))) ≡ d
difference (pos n) a b = let small : n < 2 ^ 63 = omega (arith, ints) in ap (λ z. pos (nat_abs z)) (to_z-of_z w64 (pos n) (record { sfits = small }))
difference (negsuc n) a b = absurd (omega (arith, ints))

bound_of : (v : ℤ) → FitsSigned w32 v → IsBound v
bound_of (pos n) f = let h : n < 2 ^ 31 = f.sfits in record { least = omega (arith, ints); most = omega (arith, ints) }
bound_of (negsuc n) f = let h : n < 2 ^ 31 = f.sfits in record { least = omega (arith, ints); most = omega (arith, ints) }

pub offset_kept : (v l f : ℤ) → f ≡ v → FitsSigned w32 v → IsBound l → l ≤ℤ v → v -ℤ l ≡ pos (nat_abs (to_z w64 (of_z w64 (to_z w64 (of_z w64 f) -ℤ to_z w64 (of_z w64 l)))))
offset_kept v l f e s b h =
    let bv = bound_of v s in
    let plain : to_z w64 (of_z w64 f) -ℤ to_z w64 (of_z w64 l) ≡ v -ℤ l =
    ap (λ z. z -ℤ to_z w64 (of_z w64 l)) (ap (λ z. to_z w64 (of_z w64 z)) e ∙ bound_kept v bv) ∙ ap (λ z. v -ℤ z) (bound_kept l b) in
    sym (ap (λ z. pos (nat_abs (to_z w64 (of_z w64 z)))) plain ∙ difference (v -ℤ l) (omega (arith, ints)) (omega (arith, ints, bv.most, b.least)))

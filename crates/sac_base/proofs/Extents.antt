-- Extents as the code keeps them and as numbers that are not negative.
use Rattle.std.proofs.Common.{◌≡◌, ℕ, ◌<◌, ◌≤ℤ◌, ◌^◌, ap, ◌∙◌, refl, eqb, ◌&&◌, List, [], ◌∷◌, length, map, ℤ, pos, negsuc, All, arith, FitsSigned, w32, to_z, of_z, get_or, sym, suc, zero, Some, None, option_map, if◌then◌else◌, le-leb, leb, false, ◌<ℤ◌, inl, inr, ◌⊎◌}
use Rattle.std.proofs.lemmas.List.{length-map, get_or-map}
use Rattle.std.proofs.lemmas.Int.{to_z-of_z, ints}
use Rattle.std.proofs.lemmas.List.Elements.{All-head, All-tail, All-nil, All-cons, All-weaker}
use lib.IntN.{nat_abs}
use Rattle.std.specs.Ordering.{int_eq}
use Rattle.std.proofs.lemmas.Bool.Decides.{same_from_decides, Decides-eqb, Decides-int_eq, nat_tests}
use Rattle.std.specs.Cmp.Lexicographic.{pointwise}
use Rattle.sac_base.specs.Shapes.{IsExtent, AreExtents, AreNatural, IsShape}
use Rattle.sac_base.specs.Parts.{naturals, short, shape_of_numbers}
use Rattle.std.specs.Int.{IsNonNegative}

pos_abs : (z : ℤ) → IsExtent z → pos (nat_abs z) ≡ z
pos_abs (pos n) h = refl
pos_abs (negsuc n) h = absurd h

pub same_extents : (zs : List ℤ) → All IsExtent zs → map pos (map nat_abs zs) ≡ zs
same_extents [] h = refl
same_extents (z ∷ zs) h =
    ap (λ x. x ∷ map pos (map nat_abs zs)) (pos_abs z (All-head IsExtent z zs h)) ∙ ap (λ xs. z ∷ xs) (same_extents zs (All-tail IsExtent z zs h))

pub abs_pos : (ns : List ℕ) → map nat_abs (map pos ns) ≡ ns
abs_pos [] = refl
abs_pos (n ∷ ns) = ap (λ xs. n ∷ xs) (abs_pos ns)

abs_below : (z : ℤ) → IsExtent z → nat_abs z < 2 ^ 31
abs_below (pos n) h = h
abs_below (negsuc n) h = absurd h

all_below : (zs : List ℤ) → All IsExtent zs → All (λ n. n < 2 ^ 31) (map nat_abs zs)
all_below [] h = All-nil (λ n. n < 2 ^ 31)
all_below (z ∷ zs) h = All-cons (λ n. n < 2 ^ 31) (nat_abs z) (map nat_abs zs) (abs_below z (All-head IsExtent z zs h)) (all_below zs (All-tail IsExtent z zs h))

pub shape_is : (zs : List ℤ) → AreExtents zs → IsShape (map nat_abs zs)
shape_is zs h = record { rank = omega (arith, h.rank, length-map zs nat_abs); each = all_below zs h.each }

pub extent_read : (z : ℤ) → FitsSigned w32 z → pos 0 ≤ℤ z → IsExtent z
extent_read (pos n) f h = f.sfits
extent_read (negsuc n) f h = absurd (omega arith)

signed_eq : (m n : ℕ) → int_eq (pos m) (pos n) ≡ eqb m n
signed_eq m n =
    let d = Decides-eqb m n in
    same_from_decides (int_eq (pos m) (pos n)) (eqb m n) (Decides-int_eq (pos m) (pos n)) (λ t. ap pos (d.0 t), λ e. d.1 (ap nat_abs e))

pub same_as_naturals : (ms ns : List ℕ) → pointwise int_eq (map pos ms) (map pos ns) ≡ pointwise eqb ms ns
same_as_naturals [] [] = refl
same_as_naturals [] (n ∷ ns) = refl
same_as_naturals (m ∷ ms) [] = refl
same_as_naturals (m ∷ ms) (n ∷ ns) = ap (λ t. t && pointwise int_eq (map pos ms) (map pos ns)) (signed_eq m n) ∙ ap (λ t. eqb m n && t) (same_as_naturals ms ns)

-- an extent that was read
pub read_extent : (zs : List ℤ) (ns : List ℕ) (i n : ℕ) → zs ≡ map pos ns → i < length zs → n ≡ nat_abs (to_z w32 (of_z w32 (get_or zs i (pos 0)))) → FitsSigned w32 (get_or zs i (pos 0)) → (i < length ns) × (get_or ns i 0 ≡ n)
read_extent zs ns i n e h r f =
    let below : i < length ns = omega (arith, ap length e, length-map ns (λ x. pos x)) in
    let same : get_or zs i (pos 0) ≡ pos (get_or ns i 0) = ap (λ xs. get_or xs i (pos 0)) e ∙ get_or-map (λ x. pos x) ns i 0 (pos 0) below in
    (below, sym (r ∙ ap nat_abs (to_z-of_z w32 (get_or zs i (pos 0)) f ∙ same)))

natural_one : (z : ℤ) → IsExtent z → IsNonNegative z
natural_one (pos n) h = tt
natural_one (negsuc n) h = absurd h

negative_is : (z : ℤ) → z <ℤ pos 0 → (n : ℕ) × (z ≡ negsuc n)
negative_is (pos n) h = absurd (omega (arith, ints))
negative_is (negsuc n) h = (n, refl)

not_leb : (m n : ℕ) → n < m → leb m n ≡ false
not_leb m n h = grind (arith, nat_tests)

natural_each : (zs : List ℤ) → All IsExtent zs → All IsNonNegative zs
natural_each zs h = All-weaker IsExtent IsNonNegative natural_one zs h

pub natural_from_extents : (zs : List ℤ) → AreExtents zs → AreNatural zs
natural_from_extents zs h = record { rank = h.rank; each = natural_each zs h.each }

-- the numbers of a list as extents
pub naturals_are : (zs : List ℤ) → All IsExtent zs → naturals zs ≡ Some (map nat_abs zs)
naturals_are [] h = refl
naturals_are (pos n ∷ zs) h = ap (option_map (λ others. n ∷ others)) (naturals_are zs (All-tail IsExtent (pos n) zs h))
naturals_are (negsuc n ∷ zs) h = absurd (All-head IsExtent (negsuc n) zs h)

pub shape_from_extents : (zs : List ℤ) → AreExtents zs → shape_of_numbers (Some zs) ≡ Some (map nat_abs zs)
shape_from_extents zs h =
    ap short (naturals_are zs h.each) ∙ ap (λ b. if b then Some (map nat_abs zs) else None) (le-leb (length (map nat_abs zs)) 8 (omega (arith, length-map zs nat_abs, h.rank)))

length-naturals : (zs : List ℤ) → (naturals zs ≡ None) ⊎ ((ns : List ℕ) × (naturals zs ≡ Some ns) × (length ns ≡ length zs))
length-naturals [] = inr ([], refl, refl)
length-naturals (negsuc n ∷ zs) = inl refl
length-naturals (pos n ∷ zs) =
    elim (length-naturals zs) [
      | inl e ↦ inl (ap (option_map (λ others. n ∷ others)) e)
      | inr w ↦ inr (n ∷ w.0, ap (option_map (λ others. n ∷ others)) w.1, ap suc w.2)
    ]

pub none_from_rank : (zs : List ℤ) → 8 < length zs → shape_of_numbers (Some zs) ≡ None
none_from_rank zs h =
    elim (length-naturals zs) [
      | inl e ↦ ap short e
      | inr w ↦ ap short w.1 ∙ ap (λ b. if b then Some w.0 else None) (not_leb (length w.0) 8 (omega (arith, w.2)))
    ]

none_in : (zs : List ℤ) (i n : ℕ) → i < length zs → get_or zs i (pos 0) ≡ negsuc n → naturals zs ≡ None
none_in [] i n h e = absurd (omega arith)
none_in (negsuc m ∷ zs) i n h e = refl
none_in (pos m ∷ zs) zero n h e = absurd (cc)
none_in (pos m ∷ zs) (suc i) n h e = ap (option_map (λ others. m ∷ others)) (none_in zs i n (omega arith) e)

pub none_from_negative : (zs : List ℤ) (i : ℕ) → i < length zs → get_or zs i (pos 0) <ℤ pos 0 → shape_of_numbers (Some zs) ≡ None
none_from_negative zs i h lt = ap short (none_in zs i _ h (negative_is (get_or zs i (pos 0)) lt).1)

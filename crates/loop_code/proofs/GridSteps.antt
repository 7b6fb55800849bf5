-- A grid along a row.
use Rattle.std.proofs.Common.{◌≡◌, ℕ, ◌+◌, ◌%◌, ◌<◌, ◌≤◌, inl, inr, List, [], ◌∷◌, length, drop, get_or, refl, sym, ap, ◌∙◌, arith, Bool, true, false, nat_lt}
use Rattle.std.specs.Prelude.{ℤ, pos, ◌+ℤ◌, ◌-ℤ◌, ◌≤ℤ◌, ◌<ℤ◌, unsigned_abs, ◌&&◌}
use Rattle.std.proofs.lemmas.Int.{ints}
use Rattle.std.proofs.lemmas.Bool.{lt-ltb}
use Rattle.std.proofs.lemmas.List.{drop_more, drop_all}
use Rattle.std.proofs.lemmas.Nat.{mod_below}
use Rattle.sac_base.specs.declared.grid.Grid1.{Grid1}
use Rattle.sac_base.specs.Grids.{has_index, has_vector}
use Rattle.sac_base.proofs.GridFacts.{has_facts, same_test}
use Rattle.array_with_loops.specs.Ranges.{moved_last}

-- ---- one axis

pub above_none : (g : Grid1) (x : ℤ) (j : ℕ) → pos 1 ≤ℤ g.width → g.hi ≤ℤ x → has_index g (x +ℤ pos j) ≡ false
above_none g x j wide high = elim (has_facts g (x +ℤ pos j) wide) [
  | inl y ↦ absurd (omega (arith, ints, high, y.1))
  | inr n ↦ n.1
]

pub below_none : (g : Grid1) (x : ℤ) (j : ℕ) → pos 1 ≤ℤ g.width → (x +ℤ pos j) <ℤ g.lo → has_index g (x +ℤ pos j) ≡ false
below_none g x j wide low = elim (has_facts g (x +ℤ pos j) wide) [
  | inl y ↦ absurd (omega (arith, ints, low, y.0))
  | inr n ↦ n.1
]

-- between the bounds the remainder decides
pub inside_is : (g : Grid1) (x : ℤ) (j o s w : ℕ) → pos 1 ≤ℤ g.width → o ≡ unsigned_abs (x -ℤ g.lo) → s ≡ unsigned_abs g.step → w ≡ unsigned_abs g.width
    → g.lo ≤ℤ x → (x +ℤ pos j) <ℤ g.hi → has_index g (x +ℤ pos j) ≡ nat_lt ((o + j) % s) w
inside_is g x j o s w wide eo es ew low high = elim (has_facts g (x +ℤ pos j) wide) [
  | inl y ↦
      let d : unsigned_abs ((x +ℤ pos j) -ℤ g.lo) ≡ o + j = omega (arith, ints, eo, low) in
      y.2 ∙ same_test d (sym es) (sym ew)
  | inr n ↦ absurd (elim n.0 [ inl a ↦ omega (arith, ints, a, low) | inr b ↦ omega (arith, ints, b, high) ])
]

pub all_held : (o s w j : ℕ) → 1 ≤ s → s ≤ w → nat_lt ((o + j) % s) w ≡ true
all_held o s w j some wide = lt-ltb ((o + j) % s) w (omega (arith, mod_below (o + j) s some))

-- ---- one component of an index after the other

pub grid_step : (g : List Grid1) (v : List ℤ) (k j : ℕ) (a : Grid1) (z : ℤ) → k + 1 < length v → length v ≡ length g → a ≡ get_or g k a → z ≡ get_or v k (pos 0)
    → has_vector (drop k g) (moved_last j (drop k v)) ≡ (has_index a z && has_vector (drop (k + 1) g) (moved_last j (drop (k + 1) v)))
grid_step g v k j a z h e ea ez =
    let next = drop_more v (k + 1) (pos 0) h in
    let whole = drop_more v k (pos 0) (omega arith) in
    ap (λ xs. has_vector xs (moved_last j (drop k v))) (drop_more g k a (omega arith))
    ∙ ap (λ vs. has_vector (get_or g k a ∷ drop (k + 1) g) (moved_last j vs)) whole
    ∙ ap (λ vs. has_vector (get_or g k a ∷ drop (k + 1) g) (moved_last j (get_or v k (pos 0) ∷ vs))) next
    ∙ ap (λ vs. has_index (get_or g k a) (get_or v k (pos 0)) && has_vector (drop (k + 1) g) (moved_last j vs)) (sym next)
    ∙ ap (λ b. has_index b (get_or v k (pos 0)) && has_vector (drop (k + 1) g) (moved_last j (drop (k + 1) v))) (sym ea)
    ∙ ap (λ y. has_index a y && has_vector (drop (k + 1) g) (moved_last j (drop (k + 1) v))) (sym ez)

pub grid_end : (g : List Grid1) (v : List ℤ) (k j : ℕ) (a : Grid1) (z : ℤ) → k + 1 ≡ length v → length v ≡ length g → a ≡ get_or g k a → z ≡ get_or v k (pos 0)
    → has_vector (drop k g) (moved_last j (drop k v)) ≡ has_index a (z +ℤ pos j)
grid_end g v k j a z h e ea ez =
    ap (λ xs. has_vector xs (moved_last j (drop k v))) (drop_more g k a (omega arith))
    ∙ ap (λ vs. has_vector (get_or g k a ∷ drop (k + 1) g) (moved_last j vs)) (drop_more v k (pos 0) (omega arith))
    ∙ ap (λ vs. has_vector (get_or g k a ∷ drop (k + 1) g) (moved_last j (get_or v k (pos 0) ∷ vs))) (drop_all (k + 1) v (omega arith))
    ∙ ap (λ rs. has_index (get_or g k a) (get_or v k (pos 0) +ℤ pos j) && has_vector rs []) (drop_all (k + 1) g (omega arith))
    ∙ and_true (has_index (get_or g k a) (get_or v k (pos 0) +ℤ pos j))
    ∙ ap (λ b. has_index b (get_or v k (pos 0) +ℤ pos j)) (sym ea) ∙ ap (λ y. has_index a (y +ℤ pos j)) (sym ez)
  where
    and_true : (b : Bool) → (b && true) ≡ b
    and_true true = refl
    and_true false = refl

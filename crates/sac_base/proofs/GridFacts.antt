use Rattle.std.proofs.Common.{◌≡◌, ℕ, zero, suc, ◌+◌, ◌-◌, ◌*◌, ◌/◌, ◌%◌, ◌<◌, ◌≤◌, ◌⊎◌, inl, inr, arith, refl, sym, ap, subst, ◌∙◌, nat_lt}
use Rattle.std.specs.Prelude.{ℤ, pos, negsuc, List, [], ◌∷◌, length, ◌+ℤ◌, ◌-ℤ◌, ◌≤ℤ◌, ◌<ℤ◌, unsigned_abs, int_lt, int_le, Bool, true, false, ◌&&◌}
use Rattle.std.specs.Int.{int_rem_euclid}
use Rattle.std.proofs.lemmas.Int.{ints}
use Rattle.std.proofs.lemmas.Bool.Decides.{nat_tests}
use borrow.Author.Differences.{up, down}
use Rattle.sac_base.specs.Grids.{has_index, has_vector, within}
use Rattle.sac_base.specs.declared.grid.Grid1.{Grid1}

-- the distance of two numbers, for omega
pub gap_is : (x y : ℤ) → y ≤ℤ x → unsigned_abs (x -ℤ y) + up y + down x ≡ up x + down y
gap_is x y h = omega (arith, ints)

-- the test on the remainder, by natural numbers
pub test_is : (d s w : ℤ) → pos 0 ≤ℤ d → pos 1 ≤ℤ w → int_lt (int_rem_euclid d s) w ≡ nat_lt (unsigned_abs d % unsigned_abs s) (unsigned_abs w)
test_is (pos d) s (pos w) h k = refl
test_is (pos d) s (negsuc w) h k = absurd (omega (arith, ints))
test_is (negsuc d) s w h k = absurd (omega (arith, ints))

pub within_is : (from to x : ℤ) → ((from ≤ℤ x) × (x <ℤ to) × (within from to x ≡ true)) ⊎ (((x <ℤ from) ⊎ (to ≤ℤ x)) × (within from to x ≡ false))
unfolding within
within_is from to x = grind (arith, ints)

-- outside there is no member, and inside the remainder tells
pub has_facts : (g : Grid1) (x : ℤ) → pos 1 ≤ℤ g.width
    → ((g.lo ≤ℤ x) × (x <ℤ g.hi) × (has_index g x ≡ nat_lt (unsigned_abs (x -ℤ g.lo) % unsigned_abs g.step) (unsigned_abs g.width)))
    ⊎ (((x <ℤ g.lo) ⊎ (g.hi ≤ℤ x)) × (has_index g x ≡ false))
unfolding has_index
has_facts g x w = elim (within_is g.lo g.hi x) [
  | inl y ↦
      let d : pos 0 ≤ℤ (x -ℤ g.lo) = omega (arith, ints) in
      inl (y.0, y.1, ap (λ b. b && int_lt (int_rem_euclid (x -ℤ g.lo) g.step) g.width) y.2 ∙ test_is (x -ℤ g.lo) g.step g.width d w)
  | inr n ↦ inr (n.0, ap (λ b. b && int_lt (int_rem_euclid (x -ℤ g.lo) g.step) g.width) n.1)
]

pub same_test : {a b c d e f : ℕ} → a ≡ d → b ≡ e → c ≡ f → nat_lt (a % b) c ≡ nat_lt (d % e) f
same_test p q r = cc

-- A vector of another length is no member.
pub no_member : (g : List Grid1) (v : List ℤ) → (length g ≡ length v → ⊥) → has_vector g v ≡ false
no_member [] [] h = absurd (h refl)
no_member [] (x ∷ v) h = refl
no_member (a ∷ g) [] h = refl
no_member (a ∷ g) (x ∷ v) h = by (has_index a x) (no_member g v (λ e. h (ap suc e)))
  where
    by : (b : Bool) → has_vector g v ≡ false → (b && has_vector g v) ≡ false
    by true e = e
    by false e = refl

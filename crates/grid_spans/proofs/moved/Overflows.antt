-- Sums of 64 bits and 32 bits that have no room.
use Rattle.std.proofs.Common.{◌≡◌, ◌∙◌, ap, sym, subst, ◌↔◌, IsTrue, Bool, arith, w32, w64, to_z, of_z, FitsSigned, ℤ, pos, negsuc, ◌+ℤ◌, ◌≤ℤ◌, ◌<ℤ◌}
use Rattle.std.proofs.lemmas.Int.{ints, by_lt_z, to_z-of_z}

fit : (x lo hi : ℤ) → FitsSigned w64 lo → FitsSigned w64 hi → lo ≤ℤ x → x ≤ℤ hi → FitsSigned w64 x
fit (pos n) lo (pos m) a b l h = let f = b.sfits in record { sfits = omega (arith, ints, f) }
fit (pos n) lo (negsuc m) a b l h = absurd (omega (arith, ints))
fit (negsuc n) (negsuc m) hi a b l h = let f = a.sfits in record { sfits = omega (arith, ints, f) }
fit (negsuc n) (pos m) hi a b l h = absurd (omega (arith, ints))

wider : (z : ℤ) → FitsSigned w32 z → FitsSigned w64 z
wider (pos n) f = let g = f.sfits in record { sfits = omega (arith, g) }
wider (negsuc n) f = let g = f.sfits in record { sfits = omega (arith, g) }

-- a sum as the machine has it
pub no_room : (m n r : ℤ) → FitsSigned w64 m → FitsSigned w32 n → r ≡ n → (FitsSigned w64 (to_z w64 (of_z w64 m) +ℤ to_z w64 (of_z w64 r)) → ⊥) → FitsSigned w64 (m +ℤ n) → ⊥
no_room m n r fm fn e over f =
    over (subst (FitsSigned w64) (λ i. sym (to_z-of_z w64 m fm) i +ℤ sym (ap (λ z. to_z w64 (of_z w64 z)) e ∙ to_z-of_z w64 n (wider n fn)) i) f)

-- such a sum is not below a bound exactly where a number above 0 is added
pub over_from : (t : Bool) (b m n : ℤ) → FitsSigned w64 b → FitsSigned w64 m → (FitsSigned w64 (m +ℤ n) → ⊥) → (IsTrue t ↔ (pos 0 <ℤ n)) → IsTrue t ↔ (b ≤ℤ (m +ℤ n))
over_from t b m n fb fm over p = (
  λ h. let n_above = p.0 h in by_lt_z (m +ℤ n) b (λ l. absurd (over (fit (m +ℤ n) m b fm fb (omega (arith, ints, n_above)) (omega (arith, ints, l))))) (λ g. g),
  λ g. p.1 (by_lt_z (pos 0) n (λ l. l) (λ l. absurd (over (fit (m +ℤ n) b m fb fm g (omega (arith, ints, l)))))),
)

-- and below it exactly where a number below 0 is
pub over_below : (t : Bool) (b m n : ℤ) → FitsSigned w64 b → FitsSigned w64 m → (FitsSigned w64 (m +ℤ n) → ⊥) → (IsTrue t ↔ (n <ℤ pos 0)) → IsTrue t ↔ ((m +ℤ n) <ℤ b)
over_below t b m n fb fm over p = (
  λ h. let n_below = p.0 h in by_lt_z (m +ℤ n) b (λ l. l) (λ g. absurd (over (fit (m +ℤ n) b m fb fm g (omega (arith, ints, n_below))))),
  λ l. p.1 (by_lt_z n (pos 0) (λ k. k) (λ g. absurd (over (fit (m +ℤ n) m b fm fb (omega (arith, ints, g)) (omega (arith, ints, l)))))),
)

-- Bounds and sums of 64 bits.
use Rattle.std.proofs.Common.{◌≡◌, ◌∙◌, ap, sym, subst, false, arith, inl, inr, w32, w64, to_z, of_z, FitsSigned, ℤ, pos, negsuc, ◌+ℤ◌, ◌≤ℤ◌}
use Rattle.std.specs.Prelude.{◌-ℤ◌}
use Rattle.std.proofs.lemmas.Int.{ints, to_z-of_z}
use Rattle.sac_base.specs.declared.grid.Grid1.{Grid1}
use Rattle.sac_base.specs.Grids.{has_index}
use Rattle.sac_base.proofs.GridFacts.{has_facts}
use Rattle.fold_pieces.specs.Pieces.{IsNear}

fit : (x lo hi : ℤ) → FitsSigned w64 lo → FitsSigned w64 hi → lo ≤ℤ x → x ≤ℤ hi → FitsSigned w64 x
fit (pos n) lo (pos m) a b l h = let f = b.sfits in record { sfits = omega (arith, ints, f) }
fit (pos n) lo (negsuc m) a b l h = absurd (omega (arith, ints))
fit (negsuc n) (negsuc m) hi a b l h = let f = a.sfits in record { sfits = omega (arith, ints, f) }
fit (negsuc n) (pos m) hi a b l h = absurd (omega (arith, ints))

wider : (z : ℤ) → FitsSigned w32 z → FitsSigned w64 z
wider (pos n) f = let g = f.sfits in record { sfits = omega (arith, g) }
wider (negsuc n) f = let g = f.sfits in record { sfits = omega (arith, g) }

word : (c : ℤ) → FitsSigned w32 c → (pos 0 ≤ℤ (c +ℤ pos 2147483648)) × (c ≤ℤ pos 2147483647)
word (pos n) f = let g = f.sfits in (omega (arith, ints), omega (arith, ints, g))
word (negsuc n) f = let g = f.sfits in (omega (arith, ints, g), omega (arith, ints))

between : (x : ℤ) → pos 0 ≤ℤ (x +ℤ pos 9223372036854775808) → x ≤ℤ pos 9223372036854775807 → FitsSigned w64 x
between (pos n) l h = record { sfits = omega (arith, ints) }
between (negsuc n) l h = record { sfits = omega (arith, ints) }

-- less a number of 32 bits, a bound that is near fits in 64 bits
pub near_fits : (x c : ℤ) → IsNear x → FitsSigned w32 c → FitsSigned w64 (x -ℤ c)
near_fits x c n f =
    let low = n.low in
    let high = n.high in
    let w = word c f in
    let below = w.0 in
    let above = w.1 in
    between (x -ℤ c) (omega (arith, ints)) (omega (arith, ints))

-- a sum as the machine has it
pub no_room : (m n r : ℤ) → FitsSigned w64 m → FitsSigned w32 n → r ≡ n → (FitsSigned w64 (to_z w64 (of_z w64 m) +ℤ to_z w64 (of_z w64 r)) → ⊥) → FitsSigned w64 (m +ℤ n) → ⊥
no_room m n r fm fn e over f =
    over (subst (FitsSigned w64) (λ i. sym (to_z-of_z w64 m fm) i +ℤ sym (ap (λ z. to_z w64 (of_z w64 z)) e ∙ to_z-of_z w64 n (wider n fn)) i) f)

-- a number of more than 64 bits is no member
pub none_beyond : (g : Grid1) (x : ℤ) → FitsSigned w64 g.lo → FitsSigned w64 g.hi → (FitsSigned w64 x → ⊥) → false ≡ has_index g x
none_beyond g x a b over = elim (has_facts g x g.wide) [
  | inl y ↦ absurd (let h = y.1 in over (fit x g.lo g.hi a b y.0 (omega (arith, ints))))
  | inr n ↦ sym n.1
]

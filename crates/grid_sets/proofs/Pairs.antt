-- Two grids of one axis.
use Rattle.std.proofs.Common.{◌≡◌, ℕ, ◌<◌, ◌≤◌, inl, inr, arith, sym, subst, [], ◌∷◌, Option, Some, None, IfSome, is_none}
use Rattle.std.specs.Prelude.{ℤ, ◌≤ℤ◌, ◌<ℤ◌, Bool, true, false, int_lt, int_le}
use Rattle.std.specs.Bool.{MatchBool}
use Rattle.std.specs.List.{All}
use Rattle.std.proofs.lemmas.Int.{ints, clamps}
use Rattle.std.proofs.lemmas.Bool.{cases_Bool}
use Rattle.std.proofs.Math.Nat.{mod_self}
use Rattle.std.specs.Int.{int_max, int_min}
use Rattle.std.proofs.lemmas.List.Elements.{All-nil, All-cons}
use Rattle.sac_base.specs.declared.grid.Grid1.{Grid1}
use Rattle.grid_sets.specs.Segments.{spans, steps_of, IsMultipleFor, IsTooFine}
use Rattle.grid_sets.specs.Periods.{IsLeastMultiple, IsCommonPeriod, overlap}
use Rattle.grid_sets.proofs.RunEnds.{spans_parts}

pub multiple_at : (a b c d p : ℕ) → a ≡ c → b ≡ d → IsLeastMultiple c d p → IsLeastMultiple a b p
multiple_at a b c d p e f h = subst (λ k. IsLeastMultiple k b p) (sym e) (subst (λ k. IsLeastMultiple c k p) (sym f) h)

pub found_one : {P : ℕ → Type 0} (o : Option ℕ) (t : Bool) → t ≡ is_none o → t ≡ false → IfSome o P → (p : ℕ) × P p
found_one (Some p) t e f h = (p, h)
found_one None t e f h = absurd (cc)

-- the common period of two that overlap
pub coarse_over : (a b : Grid1) (m n : ℕ) → overlap a b ≡ true → m ≡ steps_of a → n ≡ steps_of b → ((p : ℕ) × (IsLeastMultiple m n p × (p ≤ 4096))) → (p : ℕ) × IsCommonPeriod a b p × (p ≤ 4096)
coarse_over a b m n on e f (p, (is, low)) =
    (p, subst (λ t. MatchBool t (IsLeastMultiple (steps_of a) (steps_of b) p) (p ≡ 1)) (sym on) (multiple_at (steps_of a) (steps_of b) m n p (sym e) (sym f) is), low)

less : (x y : ℤ) → x <ℤ y → int_lt x y ≡ true
less x y h = grind (arith, ints)

over : (a b : Grid1) (from to : ℤ) → from <ℤ to → a.lo ≤ℤ from → to ≤ℤ a.hi → b.lo ≤ℤ from → to ≤ℤ b.hi → overlap a b ≡ true
over a b from to some p q r s = less (int_max a.lo b.lo) (int_min a.hi b.hi) (omega (arith, ints, clamps))

both_span : (a b : Grid1) (from to : ℤ) → from <ℤ to → spans a from to ≡ true → spans b from to ≡ true → overlap a b ≡ true
both_span a b from to some h k =
    let x = spans_parts a from to h in
    let y = spans_parts b from to k in
    over a b from to some x.0 x.1 y.0 y.1

both : (P : Grid1 → Type 0) (a b : Grid1) → P a → P b → All P (a ∷ b ∷ [])
both P a b h k = All-cons P a (b ∷ []) h (All-cons P b [] k (All-nil P))

absent : (k : ℕ) (from to : ℤ) (g : Grid1) → spans g from to ≡ false → IsMultipleFor k from to g
absent k from to g off on = absurd (cc)

own : (from to : ℤ) (g : Grid1) → IsMultipleFor (steps_of g) from to g
own from to g on = mod_self (steps_of g)

pub steps_some : (g : Grid1) → 0 < steps_of g
steps_some g = elim (cases_Bool (int_le g.step g.width)) [
  | inl dense ↦ rw dense (omega arith)
  | inr sparse ↦ let s = g.steps in rw sparse (omega (arith, ints))
]

-- no segment is too fine for a limit above the steps and the common period
pub never_too_fine : (limit : ℕ) (a b : Grid1) → 4096 ≤ limit → steps_of a ≤ limit → steps_of b ≤ limit → ((p : ℕ) × IsCommonPeriod a b p × (p ≤ 4096))
    → IsTooFine limit (a ∷ b ∷ []) → ⊥
never_too_fine limit a b low la lb (p, is, small) fine =
    elim (cases_Bool (spans a fine.from fine.to)) [
      | inl on_a ↦ elim (cases_Bool (spans b fine.from fine.to)) [
        | inl on_b ↦
            let on = both_span a b fine.from fine.to fine.some on_a on_b in
            let least : IsLeastMultiple (steps_of a) (steps_of b) p = subst (λ t. MatchBool t (IsLeastMultiple (steps_of a) (steps_of b) p) (p ≡ 1)) on is in
            let above = fine.above p least.positive (both (IsMultipleFor p fine.from fine.to) a b (λ h. least.left) (λ h. least.right)) in
            omega arith
        | inr off_b ↦
            let above = fine.above (steps_of a) (steps_some a) (both (IsMultipleFor (steps_of a) fine.from fine.to) a b (own fine.from fine.to a) (absent (steps_of a) fine.from fine.to b off_b)) in
            omega arith
      ]
      | inr off_a ↦
          let above = fine.above (steps_of b) (steps_some b) (both (IsMultipleFor (steps_of b) fine.from fine.to) a b (absent (steps_of b) fine.from fine.to a off_a) (own fine.from fine.to b)) in
          omega arith
    ]

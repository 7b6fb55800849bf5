-- Numbers that ascend, each of c, c + 1, .., c + n - 1 once, are these in their order.
use mathlib.Core.Logic.{inl, inr}
use Rattle.std.proofs.Common.{◌≡◌, ℕ, zero, suc, ◌+◌, ◌<◌, ◌≤◌, Bool, true, false, cond, eqb, List, [], ◌∷◌, ◌⊎◌, refl, sym, ap, ◌∙◌, ltb, arith}
use Rattle.std.proofs.lemmas.Bool.{eq-eqb, eqb-true}
use Rattle.std.proofs.lemmas.Bool.Decides.{nat_tests}
use Rattle.core.proofs.num.Ints.{cases}
use Rattle.core.proofs.str.Laws.{order}
use Rattle.count_table.specs.Views.{times}
use Rattle.chunk_reports.specs.Orders.{counting, EachOnce}

-- no number is above one that follows it
abbrev pub Ascends : List ℕ → Type 0
Ascends [] = Unit {0}
Ascends (x ∷ xs) = ((y : ℕ) → 0 < times y xs → x ≤ y) × Ascends xs

-- each of c, .., c + n - 1 stands there once, and nothing else does
abbrev pub Between : ℕ → ℕ → List ℕ → Type 0
Between c n xs = ((x : ℕ) → c ≤ x → x < c + n → times x xs ≡ 1) × ((x : ℕ) → (x < c) ⊎ (c + n ≤ x) → times x xs ≡ 0)

absent : (n : ℕ) → suc n ≡ 0 → ⊥
absent n e = native.Mathlib.Nat.not-suc-le-zero {n = 0} (omega arith)

at_head : (x : ℕ) (xs : List ℕ) → times x (x ∷ xs) ≡ 1 + times x xs
at_head x xs = let t : eqb x x ≡ true = eq-eqb x x refl in let o : cond {A = ℕ} (eqb x x) 1 0 ≡ 1 = rw t refl in omega arith

off_head : (x y : ℕ) (b : Bool) → eqb y x ≡ b → (y ≡ x → ⊥) → cond {A = ℕ} b 1 0 ≡ 0
off_head x y true e h = absurd (h (eqb-true y x e))
off_head x y false e h = refl

past_head : (x y : ℕ) (xs : List ℕ) → (y ≡ x → ⊥) → times x (y ∷ xs) ≡ times x xs
past_head x y xs h = let o = off_head x y (eqb y x) refl h in omega arith

pub in_order : (n c : ℕ) (xs : List ℕ) → Ascends xs → Between c n xs → xs ≡ counting c n
in_order zero c [] s e = refl
in_order zero c (y ∷ ys) s e = let a = at_head y ys in let b = e.1 y (order_out y c) in absurd (absent (times y ys) (omega arith))
  where
    order_out : (y c : ℕ) → (y < c) ⊎ (c + 0 ≤ y)
    order_out y c = cases (order y c) (λ l. inl l) (λ l. inr (omega arith))
in_order (suc n) c [] s e = let b : 0 ≡ 1 = e.0 c (omega arith) (omega arith) in absurd (absent 0 (sym b))
in_order (suc n) c (y ∷ ys) s e =
    let first : y ≡ c = head in
    (λ i. first i ∷ in_order n (c + 1) ys s.1 rest i)
  where
    head : y ≡ c
    head =
        let own = at_head y ys in
        let low : c ≤ y = cases (order y c) (λ l. let none = e.1 y (inl l) in absurd (absent (times y ys) (omega arith))) (λ h. h) in
        let high : y ≤ c = cases (order c y) (λ l. let here = e.0 c (omega arith) (omega arith) in let away = past_head c y ys (λ same. absent 0 (omega arith)) in s.0 c (omega arith)) (λ h. h) in
        omega arith

    rest : Between (c + 1) n ys
    rest =
        let is = head in (
          λ x a b. sym (past_head x y ys (λ same. absent 0 (omega arith))) ∙ e.0 x (omega arith) (omega arith),
          λ x out. cases (order x c)
              (λ l. let none = e.1 x (inl l) in omega arith)
              (λ h. cases (order c x)
              (λ l. sym (past_head x y ys (λ same. absent 0 (omega arith))) ∙ e.1 x (cases out (λ u. absurd (absent 0 (omega arith))) (λ u. inr (omega arith))))
              (λ k. let is_c : x ≡ y = omega arith in let one = e.0 y (omega arith) (omega arith) in let own = at_head y ys in let none : times y ys ≡ 0 = omega arith in ap (λ (q : ℕ). times q ys) is_c ∙ none)),
        )

within : (n x : ℕ) → x < n → cond {A = ℕ} (ltb x n) 1 0 ≡ 1
within n x lt = grind (arith, nat_tests)

beyond : (n x : ℕ) → n ≤ x → cond {A = ℕ} (ltb x n) 1 0 ≡ 0
beyond n x le = grind (arith, nat_tests)

pub once_between : (n : ℕ) (xs : List ℕ) → EachOnce n xs → Between 0 n xs
once_between n xs each = (
  (λ x low high. each x ∙ within n x (omega arith)),
  (λ x out. cases out (λ l. absurd (absent 0 (omega arith))) (λ h. each x ∙ beyond n x (omega arith))),
)

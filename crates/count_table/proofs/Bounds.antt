-- A bound above numbers that grow.
use Rattle.std.proofs.Common.{◌≡◌, ℕ, suc, ◌+◌, ◌<◌, ◌≤◌, max, true, cond, eqb, List, [], ◌∷◌, ◌++◌, refl, arith}
use Rattle.std.proofs.lemmas.Bool.{eq-eqb}
use Rattle.count_table.specs.Views.{times}

-- one more than the greatest
abbrev pub bound : List ℕ → ℕ
bound [] = 0
bound (x ∷ xs) = max (suc x) (bound xs)

head_has : (x : ℕ) (xs : List ℕ) → 0 < times x (x ∷ xs)
head_has x xs = let t : eqb x x ≡ true = eq-eqb x x refl in let o : cond {A = ℕ} (eqb x x) 1 0 ≡ 1 = rw t refl in omega arith

tail_has : (k x : ℕ) (xs : List ℕ) → 0 < times k xs → 0 < times k (x ∷ xs)
tail_has k x xs h = omega arith

pub bound_under : (xs : List ℕ) (c : ℕ) → ((k : ℕ) → 0 < times k xs → k < c) → bound xs ≤ c
bound_under [] c h = omega arith
bound_under (x ∷ xs) c h = let a = h x (head_has x xs) in let b = bound_under xs c (λ k l. h k (tail_has k x xs l)) in omega arith

pub bound_push : (xs : List ℕ) (c : ℕ) → bound xs ≤ c → bound (xs ++ c ∷ []) ≡ c + 1
bound_push [] c h = omega arith
bound_push (x ∷ xs) c h = let a = bound_push xs c (omega arith) in omega arith

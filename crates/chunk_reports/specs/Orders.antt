-- Chunks that are each there once, and what is made of them.
use Rattle.std.specs.Prelude.{◌≡◌, ℕ, zero, suc, ◌+◌, cond, nat_lt, List, [], ◌∷◌, Option, None}
use Rattle.count_table.specs.Views.{times}
use Rattle.wl_core.specs.Machine.{both}

-- each number below n stands there once, and nothing else does
abbrev pub EachOnce : ℕ → List ℕ → Type 0
EachOnce n xs = (x : ℕ) → times x xs ≡ cond (nat_lt x n) 1 0

-- c, c + 1, .., c + n - 1
abbrev pub counting : ℕ → ℕ → List ℕ
counting c zero = []
counting c (suc n) = c ∷ counting (c + 1) n

-- f of each number of a list, and of each below n, added up
abbrev pub sum_over : (ℕ → ℕ) → List ℕ → ℕ
sum_over f [] = 0
sum_over f (x ∷ xs) = f x + sum_over f xs

abbrev pub sum_upto : (ℕ → ℕ) → ℕ → ℕ
sum_upto f zero = 0
sum_upto f (suc n) = sum_upto f n + f n

-- the same, combined. There may be no value
abbrev pub combined_over : {A : Type 0} → (A → A → A) → (ℕ → Option A) → List ℕ → Option A
combined_over op f [] = None
combined_over op f (x ∷ xs) = both op (f x) (combined_over op f xs)

abbrev pub combined_upto : {A : Type 0} → (A → A → A) → (ℕ → Option A) → ℕ → Option A
combined_upto op f zero = None
combined_upto op f (suc n) = both op (combined_upto op f n) (f n)

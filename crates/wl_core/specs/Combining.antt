-- Operations by which values may be combined in any order.
use Rattle.std.specs.Prelude.{◌≡◌, ℕ, List, [], ◌∷◌, map, fold}
use Rattle.sac_base.specs.Verdict.{joined}

pub record IsFoldable {A : Type 0} (op : A → A → A) : Type 0 where
  pub assoc : (x y z : A) → op (op x y) z ≡ op x (op y z)
  pub comm : (x y : A) → op x y ≡ op y x

-- of each list its combined value, where it has one
abbrev pub all_combined : {A : Type 0} → (A → A → A) → List (List A) → List A
all_combined op [] = []
all_combined op ([] ∷ rest) = all_combined op rest
all_combined op ((x ∷ xs) ∷ rest) = fold op x xs ∷ all_combined op rest

-- the values of the chunks that each worker took
abbrev pub all_taken : {A : Type 0} → (ℕ → List A) → List (List ℕ) → List (List A)
all_taken cells [] = []
all_taken cells (chunks ∷ rest) = joined (map cells chunks) ∷ all_taken cells rest

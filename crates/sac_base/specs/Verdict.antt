-- What the cells of a with-loop make together, taken in order: a list of cells that each end with a value or a fault ends by
-- `all_of` with the list of the values, or with the first fault. Held values are joined or combined.
use Rattle.std.specs.Prelude.{ℤ, pos, List, [], ◌∷◌, ◌++◌, Bool, true, false, Option, Some, None, fold}
use Rattle.std.specs.Result.{result_unwrap_or}
use Rattle.sac_base.specs.declared.base.Base.{Base}
use Rattle.sac_base.specs.declared.base.Base.TheVariants.{Int, Bool as Truth}
use Rattle.sac_base.specs.declared.op.Op.{Op}
use Rattle.sac_base.specs.declared.op.Op.TheVariants.{Add, Mul, Min, Max, And, Or}
use Rattle.sac_base.specs.declared.faults.Fault.{Fault}
use Rattle.sac_base.specs.Operators.{apply_two, all_of}
use Rattle.sac_base.specs.Outcomes.{Ends}

-- the values in order, or the first fault
abbrev pub each : {A : Type 0} → List (Ends A) → Ends (List A)
each cells = all_of cells

-- the values that are there: an index that no generator holds has none
abbrev pub present : {A : Type 0} → List (Option A) → List A
present [] = []
present (None ∷ rest) = present rest
present (Some a ∷ rest) = a ∷ present rest

-- one after another
abbrev pub joined : {A : Type 0} → List (List A) → List A
joined [] = []
joined (cells ∷ rest) = cells ++ joined rest

-- combined by an operation from left to right, or None where there is nothing to combine
abbrev pub combined : {A : Type 0} → (A → A → A) → List A → Option A
combined op [] = None
combined op (a ∷ rest) = Some (fold op a rest)

-- two lists element by element
abbrev pub elementwise : (ℤ → ℤ → ℤ) → List ℤ → List ℤ → List ℤ
elementwise op [] ys = []
elementwise op (x ∷ xs) [] = []
elementwise op (x ∷ xs) (y ∷ ys) = op x y ∷ elementwise op xs ys

-- the operations of folds, with the base that each combines
abbrev pub folds : Base → Op → Bool
folds Int Add = true
folds Int Mul = true
folds Int Min = true
folds Int Max = true
folds Truth And = true
folds Truth Or = true
folds _ _ = false

-- what an operation gives, which divides by nothing
abbrev pub fold_op : Op → ℤ → ℤ → ℤ
fold_op op a b = result_unwrap_or (apply_two op a b) (pos 0)

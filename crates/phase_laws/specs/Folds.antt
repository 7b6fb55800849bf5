-- Cells that are combined chunk by chunk.
use Rattle.std.specs.Prelude.{◌≡◌, ℕ, List, [], ◌∷◌, Option, Some, None, fold}
use Rattle.sac_base.specs.declared.base.Base.{Base}
use Rattle.sac_base.specs.declared.op.Op.{Op}
use Rattle.sac_base.specs.Arrays.{ArrayValue, IsFull}
use Rattle.sac_base.specs.WithLoops.{combined}

-- a whole array of this base and shape
pub record IsOf (base : Base) (shape : List ℕ) (a : ArrayValue) : Type 0 where
  pub base_is : a.base ≡ base
  pub shape_is : a.shape ≡ shape
  pub full : IsFull a

-- all cells that are there are such arrays
abbrev pub AllOf : Base → List ℕ → List (Option ArrayValue) → Type 0
AllOf base shape [] = Unit {0}
AllOf base shape (None ∷ rest) = AllOf base shape rest
AllOf base shape (Some a ∷ rest) = IsOf base shape a × AllOf base shape rest

-- the cells of a chunk combined with each other, where there are any
abbrev pub partial : Op → List (Option ArrayValue) → Option ArrayValue
partial op [] = None
partial op (None ∷ rest) = partial op rest
partial op (Some a ∷ rest) = Some (fold (combined op) a rest)

-- two partial values as one
abbrev pub merged : Op → Option ArrayValue → Option ArrayValue → Option ArrayValue
merged op None later = later
merged op (Some a) later = Some (combined op a later)

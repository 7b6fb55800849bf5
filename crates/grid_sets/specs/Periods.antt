-- The common period of two grids of one axis.
use Rattle.std.specs.Prelude.{◌≡◌, ℕ, ◌%◌, ◌<◌, ◌≤◌, Bool, int_lt}
use Rattle.std.specs.Int.{int_max, int_min}
use Rattle.std.specs.Bool.{MatchBool}
use Rattle.sac_base.specs.declared.grid.Grid1.{Grid1}
use Rattle.grid_sets.specs.Segments.{steps_of}

-- the least number above 0 that both divide
pub record IsLeastMultiple (a b p : ℕ) : Type 0 where
  pub positive : 0 < p
  pub left : p % a ≡ 0
  pub right : p % b ≡ 0
  pub least : (k : ℕ) → 0 < k → k % a ≡ 0 → k % b ≡ 0 → p ≤ k

-- whether some number lies between the bounds of both
abbrev pub overlap : Grid1 → Grid1 → Bool
overlap a b = int_lt (int_max a.lo b.lo) (int_min a.hi b.hi)

-- the least common multiple of the steps where the ranges overlap, and else 1
abbrev pub IsCommonPeriod : Grid1 → Grid1 → ℕ → Type 0
IsCommonPeriod a b p = MatchBool (overlap a b) (IsLeastMultiple (steps_of a) (steps_of b) p) (p ≡ 1)

-- The members of a frame as offsets from its lowest one.
use Rattle.std.specs.Prelude.{◌≡◌, List, ℤ, length, map, All, FitsSigned}
use mir.Syntax.{w64}
use Rattle.sac_base.specs.declared.grid.Grid1.{Grid1}
use Rattle.array_with_loops.specs.Frames.{added}

abbrev pub lowest_of : List Grid1 → List ℤ
lowest_of g = map (λ (axis : Grid1). axis.lo) g

-- each of the vectors, further by the lowest
abbrev pub shifted : List ℤ → List (List ℤ) → List (List ℤ)
shifted low offsets = map (added low) offsets

-- the offset has a component for each of the lowest, and their sums have 64 bits
pub record IsOffset (low offset : List ℤ) : Type 0 where
  pub rank : length low ≡ length offset
  pub fits : All (FitsSigned w64) (added low offset)

-- the bounds of an axis have 64 bits
pub record HasBounds (axis : Grid1) : Type 0 where
  pub low : FitsSigned w64 axis.lo
  pub high : FitsSigned w64 axis.hi

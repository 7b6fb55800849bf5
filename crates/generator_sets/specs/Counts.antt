-- How finely a frame is cut, and into how many grids.
use Rattle.std.specs.Prelude.{ℕ, suc, ◌*◌, ◌<◌, ◌≤◌, max, ⊤, List, [], ◌∷◌, Result, MatchResult}
use Rattle.sac_base.specs.declared.grid.Grid1.{Grid1}
use Rattle.grid_sets.specs.Segments.{IsAxisCount}
use Rattle.grid_sets.specs.Periods.{IsCommonPeriod}
use Rattle.generator_sets.specs.declared.error.GenError.{GenError}
use Rattle.generator_sets.specs.declared.error.GenError.TheVariants.{TooMany, TooFine, Memory}
use Rattle.generator_sets.specs.Pieces.{axis_grids}

-- The canonical count of a frame and generators, for the frame's axes from the k-th on: the greatest period of a segment, and the product of the axes' runs.
pub data IsCanonicalCount (generators : List (List Grid1)) : ℕ → List Grid1 → ℕ → ℕ → Type 0 where
  no_axes : (k : ℕ) → IsCanonicalCount generators k [] 0 1
  and_axis : (k : ℕ) (axis : Grid1) (axes : List Grid1) (period greatest runs count : ℕ) → IsAxisCount (axis_grids k generators) axis.hi axis.lo period runs
      → IsCanonicalCount generators (suc k) axes greatest count → IsCanonicalCount generators k (axis ∷ axes) (max period greatest) (runs * count)

-- what an error says of the greatest period and the count
abbrev pub IsCause : ℕ → ℕ → ℕ → GenError → Type 0
IsCause limit greatest count TooFine = limit < greatest
IsCause limit greatest count TooMany = (greatest ≤ limit) × (64 < count)
IsCause limit greatest count Memory = ⊤

abbrev pub IsManyCause : ℕ → GenError → Type 0
IsManyCause count TooMany = 64 < count
IsManyCause count TooFine = ⊤
IsManyCause count Memory = ⊤

-- An answer comes only where no period is above the limit, and the count is at most 64; each error but want of memory has its cause.
abbrev pub IsDue : {A : Type 0} → ℕ → ℕ → ℕ → Result A GenError → Type 0
IsDue limit greatest count result = MatchResult result (λ _. (greatest ≤ limit) × (count ≤ 64)) (IsCause limit greatest count)

-- The same of the count alone, where whether a period is too fine was decided apart.
abbrev pub IsManyWhere : {A : Type 0} → ℕ → Result A GenError → Type 0
IsManyWhere count result = MatchResult result (λ _. count ≤ 64) (IsManyCause count)

-- the common periods of two grids, axis by axis
abbrev pub CommonPeriods : List Grid1 → List Grid1 → List ℕ → Type 0
CommonPeriods [] bs [] = ⊤
CommonPeriods [] bs (p ∷ ps) = ⊥
CommonPeriods (a ∷ as') bs [] = ⊥
CommonPeriods (a ∷ as') [] (p ∷ ps) = ⊥
CommonPeriods (a ∷ as') (b ∷ bs) (p ∷ ps) = IsCommonPeriod a b p × CommonPeriods as' bs ps

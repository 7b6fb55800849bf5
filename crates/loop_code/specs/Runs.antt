-- Runs of indices along a row that one range or part holds, and runs of the positions of a frame.
use Rattle.std.specs.Prelude.{◌≡◌, ℕ, ◌+◌, ◌<◌, ◌≤◌, ◌≤ℤ◌, ℤ, pos, true, false, List, [], ◌∷◌, ◌++◌, length, All, AllPairs, Any, Option, Some, None, slice_index_or}
use Rattle.sac_base.specs.declared.grid.Grid1.{Grid1}
use Rattle.sac_base.specs.Grids.{has_vector, members}
use Rattle.sac_base.specs.WithLoops.{Range, holds}
use Rattle.array_with_loops.specs.Ranges.{moved_last}
use Rattle.loop_code.specs.declared.positions.Run.{Run}

-- ---- along a row

-- the range at this place is the first that holds the index
pub record HoldsFirst (ranges : List Range) (v : List ℤ) (k : ℕ) : Type 0 where
  pub inside : k < length ranges
  pub here : holds (slice_index_or ranges k []) v ≡ true
  pub before : (j : ℕ) → j < k → holds (slice_index_or ranges j []) v ≡ false

abbrev pub last_number : List ℤ → ℤ
last_number [] = pos 0
last_number (v ∷ []) = v
last_number (v ∷ w ∷ vs) = last_number (w ∷ vs)

-- the range at this place is the first that holds an index and those behind it along a row, so many together, whose numbers have 32 bits
pub record HoldsRun (ranges : List Range) (v : List ℤ) (place count : ℕ) : Type 0 where
  pub each : (j : ℕ) → j < count → HoldsFirst ranges (moved_last j v) place
  pub fits : (j : ℕ) → j < count → last_number (moved_last j v) ≤ℤ pos 2147483647

-- no range holds an index or one of those behind it along a row, so many together
abbrev pub HoldsNone : List Range → List ℤ → ℕ → Type 0
HoldsNone ranges v count = (k j : ℕ) → k < length ranges → j < count → holds (slice_index_or ranges k []) (moved_last j v) ≡ false

-- the range at this place, or none
abbrev pub HoldsAlong : List Range → List ℤ → Option ℕ → ℕ → Type 0
HoldsAlong ranges v (Some place) count = HoldsRun ranges v place count
HoldsAlong ranges v None count = HoldsNone ranges v count

-- ---- positions of a frame

-- the part at this place is the first that has the vector
pub record HasFirst (parts : List (List Grid1)) (v : List ℤ) (k : ℕ) : Type 0 where
  pub inside : k < length parts
  pub here : has_vector (slice_index_or parts k []) v ≡ true
  pub before : (j : ℕ) → j < k → has_vector (slice_index_or parts j []) v ≡ false

-- the part at this place, or none
abbrev pub HasPart : List (List Grid1) → List ℤ → Option ℕ → Type 0
HasPart parts v (Some k) = HasFirst parts v k
HasPart parts v None = (k : ℕ) → k < length parts → has_vector (slice_index_or parts k []) v ≡ false

-- the position is one of the run
abbrev pub IsIn : ℕ → Run → Type 0
IsIn p r = (r.from ≤ p) × (p < r.from + r.count)

-- at each of its positions the run's part is the first that has the index there
abbrev pub IsRunOf : List (List ℤ) → List (List Grid1) → Run → Type 0
IsRunOf indices parts r = (p : ℕ) → IsIn p r → (p < length indices) × HasFirst parts (slice_index_or indices p []) r.part

-- The runs have exactly the positions at which a part has the index, each with the first such part.
pub record AreRunsOver (indices : List (List ℤ)) (parts : List (List Grid1)) (runs : List Run) : Type 0 where
  pub some : All (λ (r : Run). 1 ≤ r.count) runs
  pub ascending : AllPairs (λ (r s : Run). r.from + r.count ≤ s.from) runs
  pub each : All (IsRunOf indices parts) runs
  pub all : (p k : ℕ) → p < length indices → k < length parts
      → has_vector (slice_index_or parts k []) (slice_index_or indices p []) ≡ true → Any (IsIn p) runs

-- at the positions of a frame are its members in row-major order
abbrev pub AreRunsOf : List Grid1 → List (List Grid1) → List Run → Type 0
AreRunsOf frame parts runs = AreRunsOver (members frame) parts runs

-- ---- parts along a row

-- the part of an index is that of those behind it along a row, so many together
abbrev pub HasAlong : List (List Grid1) → List ℤ → Option ℕ → ℕ → Type 0
HasAlong parts v part count = (j : ℕ) → j < count → HasPart parts (moved_last j v) part

-- and of the positions from one on
abbrev pub HasFrom : List (List ℤ) → List (List Grid1) → ℕ → Option ℕ → ℕ → Type 0
HasFrom indices parts place part count = (j : ℕ) → j < count → HasPart parts (slice_index_or indices (place + j) []) part

-- with the run of so many positions from a place on, where a part has them
abbrev pub pushed : List Run → ℕ → Option ℕ → ℕ → List Run
pushed runs place (Some part) count = runs ++ record { from = place; count = count; part = part } ∷ []
pushed runs place None count = runs

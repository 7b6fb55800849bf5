-- An axis, cut into segments, and the segments into runs.
use Rattle.std.specs.Prelude.{◌≡◌, ℕ, zero, suc, ◌+◌, ◌-◌, ◌%◌, ◌<◌, ◌≤◌, min, max, Bool, true, not, ◌&&◌, nat_le, nat_lt, cond, ℤ, pos, ◌+ℤ◌, ◌-ℤ◌}
use Rattle.std.specs.Prelude.{◌≤ℤ◌, ◌<ℤ◌, int_le, unsigned_abs, List, ◌++◌, ◌⊎◌, length, if◌then◌else◌, Result, IfOk, Vec}
use Rattle.std.specs.Global.{Global}
use Rattle.std.specs.List.{All, Any, list_all}
use Rattle.std.proofs.Math.Bool.{beq}
use Rattle.sac_base.specs.declared.grid.Grid1.{Grid1}
use Rattle.sac_base.specs.Grids.{has_index, within, Splits}

-- The grid neither begins nor ends inside the segment.
abbrev pub NoCut : ℤ → ℤ → Grid1 → Type 0
NoCut from to g = ((g.lo ≤ℤ from) ⊎ (to ≤ℤ g.lo)) × ((g.hi ≤ℤ from) ⊎ (to ≤ℤ g.hi))

-- a number at which some grid begins or ends
abbrev pub IsBound : List Grid1 → ℤ → Type 0
IsBound grids x = Any (λ g. (x ≡ g.lo) ⊎ (x ≡ g.hi)) grids

-- The first segment from `from` on: it reaches up to the end of the axis or to where a grid begins or ends, whatever comes first.
pub record IsFirstSegment (from to : ℤ) (grids : List Grid1) (stop : ℤ) : Type 0 where
  pub some : from <ℤ stop
  pub inside : stop ≤ℤ to
  pub clear : All (NoCut from stop) grids
  pub end : (stop ≡ to) ⊎ IsBound grids stop

-- whether the range of the grid, from bound to bound, contains the segment
abbrev pub spans : Grid1 → ℤ → ℤ → Bool
spans g from to = int_le g.lo from && int_le to g.hi

-- the length after which the members repeat: 1 where the grid has all numbers between its bounds
abbrev pub steps_of : Grid1 → ℕ
steps_of g = if int_le g.step g.width then 1 else unsigned_abs g.step

-- Where the grid spans the segment, the period is a multiple of its step.
abbrev pub IsMultipleFor : ℕ → ℤ → ℤ → Grid1 → Type 0
IsMultipleFor p from to g = spans g from to ≡ true → p % steps_of g ≡ 0

-- the least common multiple of the steps of those grids that span the segment, and 1 where there are none
pub record IsPeriod (from to : ℤ) (grids : List Grid1) (p : ℕ) : Type 0 where
  pub positive : 0 < p
  pub common : All (IsMultipleFor p from to) grids
  pub least : (k : ℕ) → 0 < k → All (IsMultipleFor k from to) grids → p ≤ k

-- whether each grid has both numbers or neither
abbrev pub alike : List Grid1 → ℤ → ℤ → Bool
alike grids x y = list_all (λ g. beq (has_index g x) (has_index g y)) grids

-- each grid has all members of the piece or none, as it has the first one
abbrev pub IsUniform : List Grid1 → Grid1 → Type 0
IsUniform grids p = (x : ℤ) → has_index p x ≡ true → alike grids p.lo x ≡ true

-- the place of a number in its period
abbrev pub place_of : ℤ → ℕ → ℤ → ℕ
place_of from p x = unsigned_abs (x -ℤ from) % p

-- The grid has the numbers of the segment in the places from `start` to `stop` of their period.
abbrev pub IsRun : ℤ → ℤ → ℕ → ℕ → ℕ → Grid1 → Type 0
IsRun from to p start stop g =
    (x : ℤ) → has_index g x ≡ (within from to x && (nat_le start (place_of from p x) && nat_lt (place_of from p x) stop))

-- the same of the places of two numbers
abbrev pub IsRunBetween : ℤ → ℤ → ℕ → (first stop : ℤ) → Grid1 → Type 0
IsRunBetween from to p first stop = IsRun from to p (unsigned_abs (first -ℤ from)) (unsigned_abs (stop -ℤ from))

-- how far it is from a number to where the grid has a gap after members, or members after a gap
abbrev pub change_after : ℤ → Grid1 → ℕ
change_after x g =
    let phase = unsigned_abs (x -ℤ g.lo) % unsigned_abs g.step in
    cond (nat_lt phase (unsigned_abs g.width)) (unsigned_abs g.width - phase) (unsigned_abs g.step - phase)

-- From `from` on numbers are grouped into maximal runs of neighbours that belong to the same grids: whether a run begins after so many.
abbrev pub begins_run : List Grid1 → ℤ → ℕ → Bool
begins_run grids from zero = true
begins_run grids from (suc n) = not (alike grids (from +ℤ pos n) (from +ℤ pos (suc n)))

-- in how many runs the first n numbers lie
abbrev pub run_count : List Grid1 → ℤ → ℕ → ℕ
run_count grids from zero = 0
run_count grids from (suc n) = run_count grids from n + cond (begins_run grids from n) 1 0

-- how many runs the first period of a segment has, as far as the segment reaches
abbrev pub runs_of : List Grid1 → ℤ → ℤ → ℕ → ℕ
runs_of grids from to p = run_count grids from (min (unsigned_abs (to -ℤ from)) p)

-- The axis from `from` to `to`, segment by segment: the greatest of their periods, and how many runs they have together.
pub data IsAxisCount (grids : List Grid1) (to : ℤ) : ℤ → ℕ → ℕ → Type 0 where
  at_end : (from : ℤ) → to ≤ℤ from → IsAxisCount grids to from 0 0
  and_segment : (from stop : ℤ) (p greatest runs : ℕ) → IsFirstSegment from to grids stop → IsPeriod from stop grids p → IsAxisCount grids to stop greatest runs
      → IsAxisCount grids to from (max p greatest) (runs_of grids from stop p + runs)

-- the answer has as many pieces as the axis has runs, and then no period is above the limit
abbrev pub HasRuns : {E : Type 0} → List Grid1 → (from to : ℤ) → ℕ → Result (Vec Grid1 Global) E → Type 0
HasRuns grids from to limit answer =
    (greatest runs : ℕ) → IsAxisCount grids to from greatest runs → IfOk answer (λ pieces. (greatest ≤ limit) × (length pieces.items ≡ runs))

-- A segment of which each common multiple of the steps is above the limit.
pub record IsTooFine (limit : ℕ) (grids : List Grid1) : Type 0 where
  pub from : ℤ
  pub to : ℤ
  pub some : from <ℤ to
  pub clear : All (NoCut from to) grids
  pub above : (k : ℕ) → 0 < k → All (IsMultipleFor k from to) grids → limit < k

-- The list goes on with pieces that split the set, each uniform for the grids, so many of them.
pub record Extends (old new : List Grid1) (set : ℤ → Bool) (grids : List Grid1) (count : ℕ) : Type 0 where
  pub more : List Grid1
  pub joined : new ≡ old ++ more
  pub split : Splits more set
  pub uniform : All (IsUniform grids) more
  pub counted : length more ≡ count

-- The list goes on with the runs of a segment.
abbrev pub ExtendsByRuns : (old new : List Grid1) (from to : ℤ) → List Grid1 → ℕ → Type 0
ExtendsByRuns old new from to grids period = Extends old new (within from to) grids (runs_of grids from to period)

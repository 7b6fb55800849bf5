-- What holds in every state that events lead to.
use Rattle.std.specs.Prelude.{◌≡◌, ℕ, ◌+◌, ◌<◌, ◌≤◌, true, false, cond, ◌==◌, ℤ, List, [], ◌∷◌, length, slice_index, slice_get, Option, Some, None, Ok, Err}
use Rattle.sac_base.specs.declared.faults.Fault.{Fault}
use Rattle.sac_base.specs.Verdict.{present, combined}
use Rattle.wl_core.specs.declared.limits.TheConstants.{MOST_HOLDS}
use Rattle.wl_core.specs.declared.setup.Job.{Job}
use Rattle.wl_core.specs.declared.setup.Job.TheVariants.{Write as Store, Fold}
use Rattle.wl_core.specs.Machine.{CellValue, SetupValue, StateValue, VerdictValue, Faulted, combine, Works, first, end, chunks, sum_below, holds_of}
use Rattle.wl_core.specs.Machine.{listed, whole, sequential}

-- the elements of a cell's value, where it has one
abbrev pub value_of : Option CellValue → Option (List ℤ)
value_of (Some (Ok value)) = value
value_of (Some (Err fault)) = None
value_of None = None

abbrev pub cell_at : SetupValue → ℕ → Option (List ℤ)
cell_at u p = value_of (slice_get u.cells p)

-- what is stored of a cell, by who wrote it
abbrev pub stored_by : Job → List ℕ → Option (List ℤ) → Option (List ℤ)
stored_by Store [] value = None
stored_by Store (w ∷ ws) value = value
stored_by (Fold base op) ws value = None

-- the cell, if the worker wrote it
abbrev pub own : ℕ → List ℕ → Option (List ℤ) → Option (List ℤ)
own w [] value = None
own w (x ∷ xs) value = cond (x == w) value None

-- of each position the cell that the worker wrote there
abbrev pub own_cells : SetupValue → StateValue → ℕ → List (Option (List ℤ))
own_cells u s w = listed (λ p. own w (s.written p) (cell_at u p)) (length u.cells)

abbrev pub partial_by : Job → List (Option (List ℤ)) → Option (List ℤ)
partial_by Store cells = None
partial_by (Fold base op) cells = combined (combine op) (present cells)

pub record Facts (u : SetupValue) (s : StateValue) : Type 0 where
  -- the chunks below the number taken have an owner, and the others none
  pub taken_few : s.taken ≤ chunks u
  pub owners : (c : ℕ) → c < s.taken → s.owner c < u.workers
  -- a worker has at most one chunk that has neither ended nor stopped
  pub one_each : (w c d : ℕ) → Works u s w c → Works u s w d → c ≡ d
  pub within : (c : ℕ) → c < s.taken → (first u c ≤ s.next c) × (s.next c ≤ end u c)
  -- the positions before a taken chunk's next were written once each, by its owner, and do not fault
  pub done : (c p : ℕ) → c < s.taken → first u c ≤ p → p < s.next c
      → (s.written p ≡ s.owner c ∷ []) × ((value : Option (List ℤ)) × (slice_get u.cells p ≡ Some (Ok value)))
  -- and no other position was written
  pub ahead : (c p : ℕ) → c < s.taken → s.next c ≤ p → p < end u c → s.written p ≡ []
  pub untaken : (c p : ℕ) → s.taken ≤ c → first u c ≤ p → p < end u c → s.written p ≡ []
  -- what is stored are the written cells, and a worker's partial value combines its own
  pub stored : (p : ℕ) → s.stored p ≡ stored_by u.job (s.written p) (cell_at u p)
  pub partials : (w : ℕ) → s.partial w ≡ partial_by u.job (own_cells u s w)
  -- a stopped chunk's next position faults
  pub stops : (c : ℕ) → c < s.taken → s.stopped c ≡ true → (s.next c < end u c) × ((fault : Fault) × (slice_get u.cells (s.next c) ≡ Some (Err fault)))
  -- each count is that of the opening and the holds of all workers, which have at most `MOST_HOLDS` each
  pub counts : (b : ℕ) → b < length u.counts → s.count b ≡ slice_index u.counts b + sum_below (λ w. s.holds w b) u.workers
  pub few : (w : ℕ) → w < u.workers → holds_of u s w ≤ MOST_HOLDS

-- what a state without faults makes of what was stored, or of the workers' partial values
abbrev pub made_by : Job → ℕ → ℕ → StateValue → VerdictValue
made_by Store positions workers s = whole Store (listed s.stored positions)
made_by (Fold base op) positions workers s = whole (Fold base op) (listed s.partial workers)

abbrev pub NoneStopped : StateValue → Type 0
NoneStopped s = (c : ℕ) → c < s.taken → s.stopped c ≡ false

-- the fault at which the least stopped chunk stopped
abbrev pub StopsFirst : SetupValue → StateValue → Fault → Type 0
StopsFirst u s fault =
    (c : ℕ) × (c < s.taken) × (s.stopped c ≡ true) × ((d : ℕ) → d < c → s.stopped d ≡ false) × (slice_get u.cells (s.next c) ≡ Some (Err fault))

-- what a finished state says: the stop of the least stopped chunk is the sequential fault, and where none stopped, the stored cells joined,
-- or the partial values combined, are the sequential verdict; the counts are those of the opening
pub record Settled (u : SetupValue) (s : StateValue) : Type 0 where
  pub fault : (fault : Fault) → StopsFirst u s fault → sequential u ≡ Faulted fault
  pub made : NoneStopped s → sequential u ≡ made_by u.job (length u.cells) u.workers s
  pub counts : (b : ℕ) → b < length u.counts → s.count b ≡ slice_index u.counts b

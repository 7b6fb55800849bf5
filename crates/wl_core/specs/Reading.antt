-- A setup, a state and a verdict in memory as the values that they stand for.
use Rattle.std.specs.Prelude.{◌≡◌, ℕ, ◌/◌, ◌<◌, false, cond, ◌&&◌, nat_lt, ℤ, List, [], ◌∷◌, length, map, slice_get, slice_index, slice_index_or}
use Rattle.std.specs.Prelude.{Option, Some, None, MatchOption, Result, Ok, Err}
use Rattle.sac_base.specs.declared.faults.Fault.{Fault}
use Rattle.wl_core.specs.declared.setup.CellResult.{CellResult}
use Rattle.wl_core.specs.declared.setup.CellResult.TheVariants.{Value, Faults, NotHeld}
use Rattle.wl_core.specs.declared.setup.Job.{Job}
use Rattle.wl_core.specs.declared.setup.Job.TheVariants.{Write as Store, Fold}
use Rattle.wl_core.specs.declared.setup.Setup.{Setup}
use Rattle.wl_core.specs.declared.state.State.{State}
use Rattle.wl_core.specs.declared.events.Event.{Event}
use Rattle.wl_core.specs.declared.events.Refused.{Refused}
use Rattle.wl_core.specs.declared.ending.Verdict.{Verdict}
use Rattle.wl_core.specs.declared.ending.Verdict.TheVariants.{Cells as CellsOf, Partial as PartialOf, Faulted as FaultedAt}
use Rattle.wl_core.specs.Facts.{NoneStopped, StopsFirst}
use Rattle.wl_core.specs.Machine.{CellValue, OneLength, SetupValue, StateValue, VerdictValue, Cells, Partial, Faulted, IsSetup, Works, Steps, Refuses}
use Rattle.wl_core.specs.Machine.{Reached, chunks, holds_of}
use Rattle.wl_core.specs.Rows.{row_of, times_of, partial_of, items_of, PutsRow, AddsValue}

abbrev pub cell_of : CellResult → CellValue
cell_of (Value value) = Ok (Some value.items)
cell_of (Faults fault) = Err fault
cell_of NotHeld = Ok None

abbrev pub setup_of : Setup → SetupValue
setup_of u = record { cells = map cell_of u.cells.items; size = u.cuts_size; workers = u.workers; job = u.job; counts = u.counts.items }

-- a position was written where it lies before the next position of a taken chunk
abbrev pub written_by : ℕ → ℕ → (ℕ → ℕ) → (ℕ → ℕ) → ℕ → List ℕ
written_by size taken owner next p = cond (nat_lt (p / size) taken && nat_lt p (next (p / size))) (owner (p / size) ∷ []) []

abbrev pub row_if : List ℕ → List ℤ → Option (List ℤ)
row_if [] row = None
row_if (w ∷ ws) row = Some row

abbrev pub stored_rows : Job → (ℕ → List ℕ) → (ℕ → List ℤ) → ℕ → Option (List ℤ)
stored_rows Store written row p = row_if (written p) (row p)
stored_rows (Fold base op) written row p = None

abbrev pub state_of : SetupValue → State → StateValue
state_of u b =
    let owner = slice_index b.owner.items in
    let next = slice_index b.next.items in
    let written = written_by u.size b.taken owner next in
    record {
      taken = b.taken;
      owner = owner;
      next = next;
      stopped = λ c. slice_index_or b.stopped.items c false;
      written = written;
      stored = stored_rows u.job written (row_of b.stored);
      partial = partial_of b.partials;
      count = slice_index b.counts.items;
      holds = times_of b.holds;
    }

-- a row for each position that is stored, or for each worker that combines
abbrev pub RowsFor : Job → ℕ → ℕ → ℕ → ℕ → Type 0
RowsFor Store positions workers stored partials = stored ≡ positions
RowsFor (Fold base op) positions workers stored partials = partials ≡ workers

-- a place for each chunk, position, worker and buffer
pub record IsSized (u : SetupValue) (b : State) : Type 0 where
  pub owners : length b.owner.items ≡ chunks u
  pub nexts : length b.next.items ≡ chunks u
  pub stops : length b.stopped.items ≡ chunks u
  pub latest : length b.latest.items ≡ u.workers
  pub counts : length b.counts.items ≡ length u.counts
  pub held : length b.held.items ≡ u.workers
  pub workers : b.holds.workers ≡ u.workers
  pub buffers : b.holds.buffers ≡ length u.counts
  pub widths : (p : ℕ) (value : List ℤ)
      → slice_get u.cells p ≡ Some (Ok (Some value)) → (length value ≡ b.stored.width) × (length value ≡ b.partials.rows.width)
  pub rows : RowsFor u.job (length u.cells) u.workers b.stored.count b.partials.rows.count
  -- an unfinished chunk is the one that its worker took last
  pub last : (w c : ℕ) → Works u (state_of u b) w c → slice_index b.latest.items w ≡ c
  pub totals : (w : ℕ) → w < u.workers → slice_index b.held.items w ≡ holds_of u (state_of u b) w

-- the state was reached from the opening of this setup
pub record IsReached (u : Setup) (b : State) : Type 0 where
  pub setup : IsSetup (setup_of u)
  pub sized : IsSized (setup_of u) b
  pub reached : Reached (setup_of u) (state_of (setup_of u) b)

-- the worker's unfinished chunk, or None where it has none
abbrev pub IsUnfinished : Setup → State → ℕ → Option ℕ → Type 0
IsUnfinished u b w found =
    MatchOption found ((c : ℕ) → ¬ Works (setup_of u) (state_of (setup_of u) b) w c) (λ c. Works (setup_of u) (state_of (setup_of u) b) w c)

-- the fault at which the least stopped chunk stopped, or None where none stopped
abbrev pub IsFirstStop : Setup → State → Option Fault → Type 0
IsFirstStop u b found =
    MatchOption found (NoneStopped (state_of (setup_of u) b)) (λ fault. StopsFirst (setup_of u) (state_of (setup_of u) b) fault)

-- where all values have one length, it is this one
abbrev pub IsWidth : List CellValue → ℕ → Type 0
IsWidth cells width = OneLength cells → (p : ℕ) (value : List ℤ) → slice_get cells p ≡ Some (Ok (Some value)) → length value ≡ width

-- there is a row for the value
abbrev pub EnterFits : Job → State → ℕ → ℕ → List ℤ → Type 0
EnterFits Store old w position value = (position < old.stored.count) × (length value ≡ old.stored.width)
EnterFits (Fold base op) old w position value = (w < old.partials.rows.count) × (length value ≡ old.partials.rows.width)

-- a value is stored, or combined with the worker's partial value, and nothing else changes
abbrev pub Enters : Job → State → ℕ → ℕ → List ℤ → State → Type 0
Enters Store old w position value new = PutsRow old.stored new.stored position value × (new ≡ record old { stored = new.stored })
Enters (Fold base op) old w position value new = AddsValue old.partials new.partials w op value × (new ≡ record old { partials = new.partials })

-- an event was accepted and did what it does, or it was refused and nothing changed
abbrev pub Answers : Setup → State → Event → State → Result (Unit {0}) Refused → Type 0
Answers u old event new (Ok done) = Steps (setup_of u) (state_of (setup_of u) old) event (state_of (setup_of u) new)
Answers u old event new (Err reason) = (new ≡ old) × Refuses (setup_of u) (state_of (setup_of u) old) event reason

-- the same, where the new state is not yet known as reached
abbrev pub Moves : Setup → State → Event → State → Result (Unit {0}) Refused → Type 0
Moves u old event new (Ok done) = IsSized (setup_of u) new × Steps (setup_of u) (state_of (setup_of u) old) event (state_of (setup_of u) new)
Moves u old event new (Err reason) = (new ≡ old) × Refuses (setup_of u) (state_of (setup_of u) old) event reason

abbrev pub verdict_of : Verdict → VerdictValue
verdict_of (CellsOf cells) = Cells cells.items
verdict_of (PartialOf value) = Partial (items_of value)
verdict_of (FaultedAt fault) = Faulted fault

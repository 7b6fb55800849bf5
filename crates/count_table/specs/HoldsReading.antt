-- A table that no chunk is drawn from, beside the phase machine. Which chunks are whose is settled elsewhere, so the table stands for what a
-- state says of buffers alone.
use Rattle.std.specs.Prelude.{◌≡◌, ℕ, ◌+◌, ◌-◌, ◌%◌, ◌^◌, ◌<◌, ◌≤◌, List, [], ◌∷◌, ◌++◌, length, slice_index, slice_set}
use mathlib.Core.Option.{some}
use lib.ListN.{get_elem?}
use Rattle.wl_core.specs.declared.events.Event.{Event}
use Rattle.wl_core.specs.declared.events.Event.TheVariants.{Draw, Keep, Release, Write, Stop}
use Rattle.wl_core.specs.declared.limits.TheConstants.{MOST_HOLDS}
use Rattle.wl_core.specs.Machine.{SetupValue, StateValue, Steps}
use Rattle.count_table.specs.declared.view.FrameView.{FrameView}
use Rattle.count_table.specs.declared.view.WorkerView.{WorkerView}
use Rattle.count_table.specs.declared.view.View.{View}
use Rattle.count_table.specs.declared.view.View.TheVariants.{Worker, Spent}
use Rattle.count_table.specs.Views.{times, total}
use Rattle.count_table.specs.Plays.{after_keep, after_release, seated, fresh, joined}
use Rattle.count_table.specs.Reading.{held_by}

-- The table has the counts, and the views of the frame and of the others. It was opened with the counts of the machine's setup, has no more
-- seats than that has workers, and the counts and the holds are the state's
pub record IsHoldsReading {T : Type 0} (u : SetupValue) (counts : List ℕ) (f : FrameView T) (vs : List (View T)) (s : StateValue) : Type 0 where
  pub opening_is : f.opening ≡ u.counts
  pub few_seats : f.made ≤ u.workers
  pub counts_are : (b : ℕ) → b < length u.counts → s.count b ≡ slice_index counts b
  pub holds_are : (n b : ℕ) → n < u.workers → b < length u.counts → s.holds n b ≡ total (held_by n b) vs

-- the event leads from the state to one that this table stands for
abbrev pub HoldsLeadTo : {T : Type 0} → SetupValue → StateValue → Event → List ℕ → FrameView T → List (View T) → Type 0
HoldsLeadTo u s event counts f vs = (s' : StateValue) × Steps u s event s' × IsHoldsReading u counts f vs s'

-- Each kind of step on such a table is an event of the machine, or leaves its state as it is. `i` is the place of a worker's view
pub record HoldsAreEvents {T : Type 0} (u : SetupValue) (s : StateValue) (counts : List ℕ) (f : FrameView T) (vs : List (View T)) : Type 0 where
  pub keep : (i : ℕ) (w : WorkerView T) (b : ℕ) → get_elem? vs i ≡ some (Worker w) → b < w.buffers → length w.holds < MOST_HOLDS
      → HoldsLeadTo u s (Keep w.number b) (slice_set counts b ((slice_index counts b + 1) % 2 ^ 64)) f (slice_set vs i (Worker (after_keep w b)))
  pub release : (i : ℕ) (w : WorkerView T) (b : ℕ) → get_elem? vs i ≡ some (Worker w) → 0 < times b w.holds
      → HoldsLeadTo u s (Release w.number b) (slice_set counts b ((slice_index counts b + (2 ^ 64 - 1)) % 2 ^ 64)) f
      (slice_set vs i (Worker (after_release w b)))
  -- a look at a count, a new seat, and the two loads by which a seat leaves
  pub look : (i : ℕ) (w : WorkerView T) (b : ℕ) → get_elem? vs i ≡ some (Worker w)
      → IsHoldsReading u (slice_set counts b (slice_index counts b)) f (slice_set vs i (Worker w)) s
  pub seat : f.made < u.workers → IsHoldsReading u counts (seated f) (vs ++ Worker (fresh f) ∷ []) s
  pub move : (i : ℕ) (w : WorkerView T) → get_elem? vs i ≡ some (Worker w) → IsHoldsReading u counts f (slice_set vs i Spent ++ Worker w ∷ []) s
  pub join : (i : ℕ) (w : WorkerView T) → get_elem? vs i ≡ some (Worker w) → w.holds ≡ [] → IsHoldsReading u counts (joined f w) (slice_set vs i Spent) s
  -- what a worker draws, what it writes, and where it stops, does not stand in the table
  pub draw : (n : ℕ) (s' : StateValue) → Steps u s (Draw n) s' → IsHoldsReading u counts f vs s'
  pub write : (n : ℕ) (s' : StateValue) → Steps u s (Write n) s' → IsHoldsReading u counts f vs s'
  pub stop : (n : ℕ) (s' : StateValue) → Steps u s (Stop n) s' → IsHoldsReading u counts f vs s'

-- Which state of the phase machine the words and views of a table stand for.
use Rattle.std.specs.Prelude.{◌≡◌, ℕ, ◌+◌, ◌-◌, ◌%◌, ◌^◌, ◌<◌, ◌≤◌, ◌==◌, min, cond, List, [], ◌∷◌, ◌++◌, length, slice_index, slice_set}
use mathlib.Core.Option.{some}
use lib.ListN.{get_elem?}
use Rattle.wl_core.specs.declared.events.Event.{Event}
use Rattle.wl_core.specs.declared.events.Event.TheVariants.{Draw, Keep, Release, Write, Stop}
use Rattle.wl_core.specs.declared.limits.TheConstants.{MOST_HOLDS}
use Rattle.wl_core.specs.Machine.{SetupValue, StateValue, Steps, Works, chunks}
use Rattle.count_table.specs.declared.view.FrameView.{FrameView}
use Rattle.count_table.specs.declared.view.WorkerView.{WorkerView}
use Rattle.count_table.specs.declared.view.View.{View}
use Rattle.count_table.specs.declared.view.View.TheVariants.{Frame, Worker, Spent}
use Rattle.count_table.specs.Views.{times, total}
use Rattle.count_table.specs.Plays.{after_draw, after_keep, after_release, seated, fresh, joined}

-- how often the chunk c stands beside the seat number n
abbrev pub pair_times : ℕ → ℕ → List (ℕ × ℕ) → ℕ
pair_times c n [] = 0
pair_times c n (p ∷ ps) = cond (p.1 == n) (cond (p.0 == c) 1 0) 0 + pair_times c n ps

-- how often a view has the chunk c as one of the worker n
abbrev pub owned_by : {T : Type 0} → ℕ → ℕ → View T → ℕ
owned_by n c (Frame f) = pair_times c n f.drawn
owned_by n c (Worker w) = cond (w.number == n) (times c w.drawn) 0
owned_by n c Spent = 0

-- how often the worker n holds the buffer b, as a view has it
abbrev pub held_by : {T : Type 0} → ℕ → ℕ → View T → ℕ
held_by n b (Frame f) = 0
held_by n b (Worker w) = cond (w.number == n) (times b w.holds) 0
held_by n b Spent = 0

-- A table has the next chunk number and the counts as its words, and the views of the frame and of the others. It stands for a state where
-- it was opened for the machine's setup and has no more seats than that has workers, and the chunks taken, their owners, the counts and the
-- holds are the state's
pub record IsReading {T : Type 0} (u : SetupValue) (next : ℕ) (counts : List ℕ) (f : FrameView T) (vs : List (View T)) (s : StateValue) : Type 0 where
  pub chunks_are : length f.parts ≡ chunks u
  pub opening_is : f.opening ≡ u.counts
  pub few_seats : f.made ≤ u.workers
  pub taken : s.taken ≡ min next (chunks u)
  pub owners : (c n : ℕ) → c < s.taken → total (owned_by n c) (Frame f ∷ vs) ≡ cond (s.owner c == n) 1 0
  pub counts_are : (b : ℕ) → b < length u.counts → s.count b ≡ slice_index counts b
  pub holds_are : (n b : ℕ) → n < u.workers → b < length u.counts → s.holds n b ≡ total (held_by n b) vs

-- the event leads from the state to one that this table stands for
abbrev pub LeadsTo : {T : Type 0} → SetupValue → StateValue → Event → ℕ → List ℕ → FrameView T → List (View T) → Type 0
LeadsTo u s event next counts f vs = (s' : StateValue) × Steps u s event s' × IsReading u next counts f vs s'

-- Each kind of step on such a table is an event of the machine, or leaves its state as it is. `i` is the place of a worker's view
pub record StepsAreEvents {T : Type 0} (u : SetupValue) (s : StateValue) (next : ℕ) (counts : List ℕ) (f : FrameView T) (vs : List (View T)) : Type 0 where
  -- a draw that finds a chunk left, by a worker whose earlier chunk has ended or stopped
  pub draw : (i : ℕ) (w : WorkerView T) → get_elem? vs i ≡ some (Worker w) → next < chunks u → ((c : ℕ) → ¬ Works u s w.number c)
      → LeadsTo u s (Draw w.number) ((next + 1) % 2 ^ 64) counts f (slice_set vs i (Worker (after_draw w next)))
  -- a draw that finds none
  pub draw_none : (i : ℕ) (w : WorkerView T) → get_elem? vs i ≡ some (Worker w) → chunks u ≤ next
      → IsReading u ((next + 1) % 2 ^ 64) counts f (slice_set vs i (Worker (after_draw w next))) s
  pub keep : (i : ℕ) (w : WorkerView T) (b : ℕ) → get_elem? vs i ≡ some (Worker w) → b < w.buffers → length w.holds < MOST_HOLDS
      → LeadsTo u s (Keep w.number b) next (slice_set counts b ((slice_index counts b + 1) % 2 ^ 64)) f (slice_set vs i (Worker (after_keep w b)))
  pub release : (i : ℕ) (w : WorkerView T) (b : ℕ) → get_elem? vs i ≡ some (Worker w) → 0 < times b w.holds
      → LeadsTo u s (Release w.number b) next (slice_set counts b ((slice_index counts b + (2 ^ 64 - 1)) % 2 ^ 64)) f
      (slice_set vs i (Worker (after_release w b)))
  -- a look at a count, a new seat, and the two loads by which a seat leaves
  pub look : (i : ℕ) (w : WorkerView T) (b : ℕ) → get_elem? vs i ≡ some (Worker w)
      → IsReading u next (slice_set counts b (slice_index counts b)) f (slice_set vs i (Worker w)) s
  pub seat : f.made < u.workers → IsReading u next counts (seated f) (vs ++ Worker (fresh f) ∷ []) s
  pub move : (i : ℕ) (w : WorkerView T) → get_elem? vs i ≡ some (Worker w) → IsReading u next counts f (slice_set vs i Spent ++ Worker w ∷ []) s
  pub join : (i : ℕ) (w : WorkerView T) → get_elem? vs i ≡ some (Worker w) → w.holds ≡ [] → IsReading u next counts (joined f w) (slice_set vs i Spent) s
  -- the taking of a part out of a slot changes no word and no view. What a worker writes, and where it stops, does not stand in the table
  pub write : (n : ℕ) (s' : StateValue) → Steps u s (Write n) s' → IsReading u next counts f vs s'
  pub stop : (n : ℕ) (s' : StateValue) → Steps u s (Stop n) s' → IsReading u next counts f vs s'

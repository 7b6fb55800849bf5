-- The rule of a phase's table, between any two steps of any threads. Word 0 is the next chunk number, and word b + 1 the count of the shared
-- buffer b. The slots have the parts of the chunks.
use Rattle.std.specs.Prelude.{◌≡◌, ℕ, ◌+◌, ◌<◌, ◌≤◌, min, cond, nat_lt, List, [], ◌∷◌, length, slice_index, slice_get, All}
use mathlib.Core.Option.{some, Option as Home}
use Rattle.std.specs.declared.option.Option.{Option}
use lib.ListN.{get_elem?}
use Rattle.atomic_table.specs.Table.{State}
use Rattle.sac_base.specs.declared.limits.TheConstants.{MOST_REFERENCES}
use Rattle.wl_core.specs.declared.limits.TheConstants.{MOST_CHUNKS, MOST_HOLDS, MOST_WORKERS}
use Rattle.count_table.specs.declared.view.FrameView.{FrameView}
use Rattle.count_table.specs.declared.view.WorkerView.{WorkerView}
use Rattle.count_table.specs.declared.view.View.{View}
use Rattle.count_table.specs.declared.view.View.TheVariants.{Frame, Worker, Spent}
use Rattle.count_table.specs.Views.{times, total, drawn_times, drawn_count, none_count, holds_of, is_out, has_number}

-- a worker's view beside the frame's
pub record IsSeatOf {T : Type 0} (f : FrameView T) (w : WorkerView T) : Type 0 where
  pub number_made : w.number < f.made
  pub few_holds : length w.holds ≤ MOST_HOLDS
  pub holds_within : (b : ℕ) → 0 < times b w.holds → b < length f.opening
  -- what never changes is the same in both
  pub same_parts : w.parts ≡ f.parts
  pub same_buffers : w.buffers ≡ length f.opening

-- a view beside the frame's. No other view is a frame's
abbrev pub Fits : {T : Type 0} → FrameView T → View T → Type 0
Fits f (Frame g) = ⊥
Fits f (Worker w) = IsSeatOf f w
Fits f Spent = Unit {0}

-- f is the frame's view, and vs has the workers' views and those of seats that left
pub record Counted {T : Type 0} (next : ℕ) (counts : List ℕ) (homes : List (Home (Option T))) (f : FrameView T) (vs : List (View T)) : Type 0 where
  -- the next number counts the chunks in all views, and the draws that found none left
  pub next_is : next ≡ drawn_count (Frame f ∷ vs) + none_count (Frame f ∷ vs)
  pub few_nones : f.nones + f.out ≤ f.made
  -- the chunks in all views are those below the next number, as far as there are chunks, each once
  pub each_once : (x : ℕ) → drawn_times x (Frame f ∷ vs) ≡ cond (nat_lt x (min next (length f.parts))) 1 0
  -- each count is the one at the opening and the holds in all views
  pub buffers : length counts ≡ length f.opening
  pub count_is : (b : ℕ) → b < length f.opening → slice_index counts b ≡ slice_index f.opening b + total (holds_of b) vs
  -- the frame's view is in range
  pub opened : All (λ n. (1 ≤ n) × (n ≤ MOST_REFERENCES)) f.opening
  pub few_seats : f.made ≤ MOST_WORKERS
  pub few_chunks : length f.parts ≤ MOST_CHUNKS
  pub drawn_by : All (λ p. p.1 < f.made) f.drawn
  -- the workers' views are as many as are out, each with a number of its own
  pub out_is : total is_out vs ≡ f.out
  pub one_each : (n : ℕ) → total (has_number n) vs ≤ 1
  pub fit : (k : ℕ) (v : View T) → get_elem? vs k ≡ some v → Fits f v
  -- the slot of each chunk that stands in no view is at home, and holds the chunk's part
  pub parts_home : (k : ℕ) → k < length f.parts → drawn_times k (Frame f ∷ vs) ≡ 0 → get_elem? homes k ≡ some (some (slice_get f.parts k))

abbrev pub Keeps : {T : Type 0} → List ℕ → List (Home (Option T)) → List (View T) → Type 0
Keeps [] homes _ = ⊥
Keeps (next ∷ counts) homes [] = ⊥
Keeps (next ∷ counts) homes (Frame f ∷ vs) = Counted next counts homes f vs
Keeps (next ∷ counts) homes (Worker w ∷ vs) = ⊥
Keeps (next ∷ counts) homes (Spent ∷ vs) = ⊥

abbrev pub Ruled : {T : Type 0} → State (Option T) (View T) → Type 0
Ruled s = Keeps s.words s.homes s.views

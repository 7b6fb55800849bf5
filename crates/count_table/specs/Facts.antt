-- What follows from the rule of a phase's table.
use Rattle.std.specs.Prelude.{◌≡◌, ℕ, ◌+◌, ◌*◌, ◌<◌, ◌≤◌, min, List, ◌∷◌, length, slice_index}
use mathlib.Core.Option.{some}
use lib.ListN.{get_elem?}
use Rattle.sac_base.specs.declared.limits.TheConstants.{MOST_REFERENCES}
use Rattle.wl_core.specs.declared.limits.TheConstants.{MOST_CHUNKS, MOST_HOLDS, MOST_WORKERS}
use Rattle.count_table.specs.declared.view.FrameView.{FrameView}
use Rattle.count_table.specs.declared.view.WorkerView.{WorkerView}
use Rattle.count_table.specs.declared.view.View.{View}
use Rattle.count_table.specs.declared.view.View.TheVariants.{Frame, Worker}
use Rattle.count_table.specs.Views.{times, drawn_count, none_count}

pub record RuleFacts {T : Type 0} (next : ℕ) (counts : List ℕ) (f : FrameView T) (vs : List (View T)) : Type 0 where
  -- as many chunks stand in the views as the next number says, as far as there are chunks
  pub taken : drawn_count (Frame f ∷ vs) ≡ min next (length f.parts)
  -- where a view has drawn None, the next number is at least the number of chunks
  pub none_left : 0 < none_count (Frame f ∷ vs) → length f.parts ≤ next
  -- a buffer that a worker holds has a count of at least 2, so giving up a hold never frees it
  pub held_twice : (k : ℕ) (w : WorkerView T) (b : ℕ) → get_elem? vs k ≡ some (Worker w) → 0 < times b w.holds → 2 ≤ slice_index counts b
  -- a worker's chunks lie below the next number
  pub below_next : (k : ℕ) (w : WorkerView T) (c : ℕ) → get_elem? vs k ≡ some (Worker w) → 0 < times c w.drawn → c < next
  -- no word comes near its end
  pub small_next : next ≤ MOST_CHUNKS + MOST_WORKERS
  pub small_counts : (b : ℕ) → b < length f.opening → slice_index counts b ≤ MOST_REFERENCES + MOST_WORKERS * MOST_HOLDS

-- Results that are not finished yet, and cells that are written into them.
use Rattle.std.specs.Prelude.{◌≡◌, ◌≤◌, ℕ, ◌+◌, List, ℤ, Option, Some, None, length}
use Rattle.buffer_heap.specs.declared.heap.BufferId.{BufferId}
use Rattle.counted_code.specs.Loops as machine
use Rattle.counted_code.specs.Loops.{Claimed, Inside, Fresh, written_at}
use Rattle.run_store.specs.Stands.{Stands}
use Rattle.run_store.specs.declared.store.Store.{Store}
use Rattle.run_store.specs.declared.target.Target.{Target}

-- a result without a buffer is small, and one with a buffer is a new one of its number
abbrev pub target_at : Option BufferId → machine.Target
target_at None = Inside
target_at (Some id) = Fresh id.born

abbrev pub target_of : Target → machine.Target
target_of t = target_at t.buffer

-- the target is what the machine has claimed, in its heap, and nothing is left to release after the loop
pub record IsClaimed (t : Target) (s : Store) (c : Claimed) : Type 0 where
  pub target : target_of t ≡ c.target
  pub rest : c.rest ≡ None
  pub heap : Stands s c.heap

-- a part lies within the old cells from a place on, and the new cells have it there
pub record IsWritten (start : ℕ) (part old new : List ℤ) : Type 0 where
  pub within : start + length part ≤ length old
  pub cells : new ≡ written_at start part old

-- there were as many cells as the whole has, and the new ones are the whole
pub record IsCopied (whole old new : List ℤ) : Type 0 where
  pub len : length whole ≡ length old
  pub cells : new ≡ whole

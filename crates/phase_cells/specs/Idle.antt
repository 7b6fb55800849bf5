-- What a worker has between two cells.
use Rattle.std.specs.Prelude.{◌≡◌, ◌≤◌, ℕ, zero, suc, ◌+◌, ◌-◌, Option, None, Some, length, replicate, List}
use Rattle.buffer_heap.specs.Heaps.{HeapValue, Held, at}
use Rattle.counted_code.specs.Values.{Heap, count_of}
use Rattle.run_store.specs.Lents.{LentValue, holds_at}
use Rattle.run_store.specs.Stands.{StandsFor, Stands}
use Rattle.run_store.specs.declared.store.Store.{Store}
use Rattle.phase_team.specs.declared.cells.CellEnd.{CellEnd}
use Rattle.phase_team.specs.declared.cells.CellEnd.TheVariants.{Value, NotHeld, Stopped}

-- each buffer of the heap that lends has the references that it has there
abbrev pub IsAsLent : HeapValue → Heap → Type 0
IsAsLent h m = (b : ℕ) (x : Held) → at h b ≡ Some x → count_of m x.born ≡ x.count

-- a cell was computed from a heap of the machine, and has taken and given back so many buffers; another cell may follow
pub record IsLeft (opens : Heap → Type 0) (lends : HeapValue) (n : ℕ) (k : Heap) (s : Store) : Type 0 where
  pub after : Heap
  pub stands : Stands s after
  pub opens_again : opens after
  pub lent : IsAsLent lends after
  pub taken : after.taken ≡ k.taken + n
  pub given : after.given ≡ k.given + n
  pub reused : after.reused ≡ k.reused
  pub buffers : length after.buffers ≡ length k.buffers + n

-- a store with this heap as its own, whose seat holds nothing, stands for a heap of the machine
abbrev pub StandsBehind : HeapValue → HeapValue → Heap → Type 0
StandsBehind lends own k = (l : LentValue) → l.heap ≡ lends → ((b : ℕ) → holds_at l b ≡ 0) → Stands (record { own = own; lent = Some l }) k

-- a cell may be computed, unless one was stopped
abbrev pub MayRun : {S : Type 0} → (S → Type 0) → (Heap → Type 0) → HeapValue → HeapValue → Option S → Type 0
MayRun ready opens lends own None = Unit {0}
MayRun ready opens lends own (Some scratch) = ready scratch × (lends.births ≤ own.births) × ((k : Heap) × StandsBehind lends own k × opens k)

-- a worker between two cells: its own heap has no buffer, and no hold is counted
pub record IsIdle {S : Type 0} (ready : S → Type 0) (opens : Heap → Type 0) (lends own : HeapValue) (holds : List ℕ) (scratch : Option S) : Type 0 where
  pub empty : (b : ℕ) → at own b ≡ None
  pub none_held : holds ≡ replicate (length lends.places) 0
  pub may_run : MayRun ready opens lends own scratch

-- the main thread's heap lends its buffers, and cells may be computed from the machine's
pub record IsLending (opens : Heap → Type 0) (lends : HeapValue) : Type 0 where
  pub before : Heap
  pub stands : StandsFor lends before
  pub opens_first : opens before

-- what a heap has counted of each kind: the numbers of buffers, exactly, and modulo 2^64 those that were taken, given back and reused
abbrev pub counter : HeapValue → ℕ → ℕ
counter h zero = h.births
counter h (suc zero) = h.taken
counter h (suc (suc zero)) = h.given
counter h (suc (suc (suc zero))) = h.reused
counter h (suc (suc (suc (suc kind)))) = 0

-- the same of a heap behind the one that lends
abbrev pub counter_behind : HeapValue → HeapValue → ℕ → ℕ
counter_behind lends own zero = own.births - lends.births
counter_behind lends own (suc kind) = counter own (suc kind)

-- how much is counted more with so many buffers
abbrev pub raise : ℕ → ℕ → ℕ
raise n zero = n
raise n (suc zero) = n
raise n (suc (suc zero)) = n
raise n (suc (suc (suc kind))) = 0

-- what is left of a worker's scratch after a cell
abbrev pub WentOn : {S : Type 0} → CellEnd → Option S → Option S → Type 0
WentOn Value before after = after ≡ before
WentOn NotHeld before after = after ≡ before
WentOn (Stopped stop) before after = after ≡ None

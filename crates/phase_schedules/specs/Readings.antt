-- What a moment of a phase stands for, and what it comes to at the end.
use Rattle.std.specs.Prelude.{◌≡◌, ℕ, ◌+◌, ◌<◌, ◌≤◌, ◌⊎◌, true, false, List, [], ◌∷◌, length, slice_get, slice_index, Some}
use Rattle.wl_core.specs.Facts.{Settled}
use Rattle.wl_core.specs.Machine.{Finished, Reached, SetupValue, StateValue, chunks, end}
use Rattle.count_table.specs.declared.view.FrameView.{FrameView}
use Rattle.count_table.specs.declared.view.WorkerView.{WorkerView}
use Rattle.count_table.specs.declared.view.View.{View}
use Rattle.count_table.specs.declared.view.View.TheVariants.{Frame, Worker, Spent}
use Rattle.count_table.specs.Views.{times}
use Rattle.count_table.specs.Rule.{Ruled}
use Rattle.count_table.specs.HoldsReading.{IsHoldsReading}
use Rattle.count_table.specs.Reading.{IsReading}
use Rattle.phase_schedules.specs.Interleavings.{IsFrame, IsSeat}
use Rattle.phase_schedules.specs.Moments.{Dynamic, Moment, Scheduling, Static, Work, ending}

-- what holds of the next chunk number, the counts, the frame's view and the others
abbrev pub AtFrame : {T : Type 0} → (ℕ → List ℕ → FrameView T → List (View T) → Type 0) → List ℕ → List (View T) → Type 0
AtFrame P [] vs = ⊥
AtFrame P (next ∷ counts) [] = ⊥
AtFrame P (next ∷ counts) (Frame f ∷ vs) = P next counts f vs
AtFrame P (next ∷ counts) (Worker w ∷ vs) = ⊥
AtFrame P (next ∷ counts) (Spent ∷ vs) = ⊥

-- the machine's chunks are those that were assigned
pub record IsAssigned (assigned : List ℕ) (s : StateValue) : Type 0 where
  pub taken : s.taken ≡ length assigned
  pub owners : (c n : ℕ) → slice_get assigned c ≡ Some n → s.owner c ≡ n

-- A moment's table, as `count_table` reads it, and the chunks that were assigned stand for a state
abbrev pub Reads : {T : Type 0} → Scheduling → SetupValue → List ℕ → List (View T) → List ℕ → StateValue → Type 0
Reads Dynamic u ws vs assigned s = AtFrame (λ next counts f views. IsReading u next counts f views s) ws vs
Reads Static u ws vs assigned s = AtFrame (λ next counts f views. IsHoldsReading u counts f views s) ws vs × IsAssigned assigned s

-- the machine's chunk has ended or stopped
abbrev pub IsOver : SetupValue → StateValue → ℕ → Type 0
IsOver u s c = (s.next c ≡ end u c) ⊎ (s.stopped c ≡ true)

-- the machine has a chunk as the workers have it
abbrev pub IsAlike : Work → StateValue → ℕ → Type 0
IsAlike k s c = (k.next c ≡ s.next c) × (k.stopped c ≡ s.stopped c)

-- It has it so, or a worker got another chunk before it was through with this one: then the machine, in which that
-- cannot be, is done with the chunk, and the worker is not
abbrev pub IsAsFar : SetupValue → Work → StateValue → ℕ → Type 0
IsAsFar u k s c = IsAlike k s c ⊎ (IsOver u s c × (k.stopped c ≡ false) × (k.next c ≤ s.next c))

-- the machine's cells are the workers'
pub record SameCells (u : SetupValue) (k : Work) (s : StateValue) : Type 0 where
  pub written : (p : ℕ) → p < length u.cells → k.written p ≡ s.written p
  pub stored : (p : ℕ) → p < length u.cells → k.stored p ≡ s.stored p
  pub partials : (w : ℕ) → k.partial w ≡ s.partial w

-- a run of the machine leads to the state that the moment stands for
pub record IsRunTo {T : Type 0} (kind : Scheduling) (u : SetupValue) (m : Moment T) (s : StateValue) : Type 0 where
  pub reached : Reached u s
  pub table : Reads kind u m.table.words m.table.views m.assigned s
  pub cells : (c : ℕ) → c < s.taken → IsAsFar u m.work s c
  -- where no chunk was drawn or assigned ahead, all cells are the same
  pub exact : ((c : ℕ) → c < s.taken → IsAlike m.work s c) → SameCells u m.work s

-- what holds between any two steps
pub record Stands {T : Type 0} (kind : Scheduling) (u : SetupValue) (m : Moment T) : Type 0 where
  pub ruled : Ruled m.table
  pub run : (s : StateValue) × IsRunTo kind u m s
  -- a buffer that a worker holds has a second reference, so nobody finds it with one and writes over it
  pub held_twice : (id : ℕ) (w : WorkerView T) (b : ℕ) → IsSeat m.table id w → 0 < times b w.holds → 2 ≤ slice_index m.table.words (b + 1)

-- every seat that was made has left
abbrev pub AllLeft : {T : Type 0} → Moment T → Type 0
AllLeft {T} m = (f : FrameView T) × IsFrame m.table f × (f.out ≡ 0)

-- the chunk's cells were written to its end, or one of them faults, or it lies after a chunk of which one does
abbrev pub ChunkDone : SetupValue → Work → ℕ → Type 0
ChunkDone u k c = (k.next c ≡ end u c) ⊎ ((k.stopped c ≡ true) ⊎ ((d : ℕ) × (d < c) × (k.stopped d ≡ true)))

abbrev pub CellsDone : SetupValue → Work → Type 0
CellsDone u k = (c : ℕ) → c < chunks u → ChunkDone u k c

-- the cells, as the workers left them, are the sequential verdict, and so is the machine's state; the counts are those of the opening
pub record Ends {T : Type 0} (kind : Scheduling) (u : SetupValue) (m : Moment T) : Type 0 where
  pub cells : Settled u (ending u m.work)
  pub state : (s : StateValue) × IsRunTo kind u m s × Finished u s × Settled u s
  pub counts : (b : ℕ) → b < length u.counts → slice_index m.table.words (b + 1) ≡ slice_index u.counts b

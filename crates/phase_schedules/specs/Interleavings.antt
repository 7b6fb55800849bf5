-- The threads of a phase in any order: each step is one that the calls of `count_table` take at the table, or what a worker does to a cell of
-- its chunk.
use Rattle.std.specs.Prelude.{◌≡◌, ℕ, ◌+◌, ◌-◌, ◌%◌, ◌^◌, ◌<◌, false, ℤ, List, [], ◌∷◌, ◌++◌, length, slice_get, slice_index, slice_set, Ok, Err}
use mathlib.Core.Option.{none, some}
use lib.ListN.{get_elem?}
use Rattle.std.specs.declared.option.Option.{Option}
use Rattle.std.specs.declared.option.Option.TheVariants.{Some}
use Rattle.sac_base.specs.declared.faults.Fault.{Fault}
use Rattle.atomic_table.specs.Table.{Act, Step, Valid, carried_after, chain, gives, keeps, step, stepped, takes}
use Rattle.wl_core.specs.declared.limits.TheConstants.{MOST_HOLDS}
use Rattle.wl_core.specs.Machine.{SetupValue, chunks, end}
use Rattle.count_table.specs.declared.view.FrameView.{FrameView}
use Rattle.count_table.specs.declared.view.WorkerView.{WorkerView}
use Rattle.count_table.specs.declared.view.View.{View}
use Rattle.count_table.specs.declared.view.View.TheVariants.{Frame, Worker, Spent}
use Rattle.count_table.specs.Views.{times}
use Rattle.count_table.specs.Plays.{Draws, Keeping, Looking, Releasing, Seat, both_of, left_of, moved_left, moved_right, right_of}
use Rattle.phase_schedules.specs.Moments.{Dynamic, Moment, Scheduling, Static, Table, met_fault, wrote}

-- What one thread does at the table in a step. A seat is named by its place among the views; the frame's is the first
pub data TableAction : Type 0 where
  DrawBy : ℕ → TableAction
  KeepBy : ℕ → ℕ → TableAction
  ReleaseBy : ℕ → ℕ → TableAction
  LookBy : ℕ → ℕ → TableAction
  -- a worker takes the part of its chunk out of the slot that it got at its draw
  TakeBy : ℕ → TableAction
  MakeSeat : TableAction
  -- the two steps of `leave`: the view goes on under a new seat, and the frame takes that seat back
  MoveSeat : ℕ → TableAction
  JoinSeat : ℕ → TableAction

pub data Action : Type 0 where
  AtTable : TableAction → Action
  -- the next chunk is assigned to a worker
  Assign : ℕ → Action
  -- a worker writes the next cell of a chunk of its own, or meets one that faults
  WriteBy : ℕ → ℕ → Action
  StopBy : ℕ → ℕ → Action

module _ {T : Type 0} where
  abbrev pub IsSeat : Table T → ℕ → WorkerView T → Type 0
  IsSeat s id w = get_elem? s.views id ≡ some (Worker w)

  abbrev pub IsFrame : Table T → FrameView T → Type 0
  IsFrame s f = get_elem? s.views 0 ≡ some (Frame f)

  -- a step takes one slot, or none
  abbrev pub IsOneAct : Act (Option T) → Type 0
  IsOneAct keeps = Unit {0}
  IsOneAct (takes k part) = Unit {0}
  IsOneAct gives = ⊥
  IsOneAct (chain a b) = ⊥

  -- A worker's atomic step on a word, by which that becomes `turn` of what it was: the seat, whatever slots it has, gets the view that the step tells
  abbrev pub Turns : (Step (Option T) → Seat T → ℕ → Seat T → Type 0) → ℕ → ℕ → (ℕ → ℕ) → ℕ → WorkerView T → Table T → Table T → Type 0
  Turns told word operand turn id w s t =
      (held : List (ℕ × Option T)) × (v : View T) × (act : Act (Option T)) × IsOneAct act × Valid s.homes held act
      × told (step (length s.homes) word operand 0 none) (Worker w, held) (slice_index s.words word) (v, carried_after held act)
      × (t ≡ stepped s word (turn (slice_index s.words word)) id held v act)

  -- a seat's view is cut in two, and a new seat has the second
  abbrev pub parted : Table T → ℕ → View T → View T → Table T
  parted s id left right = record { words = s.words; homes = s.homes; views = slice_set s.views id left ++ right ∷ [] }

  -- a seat takes in another's view
  abbrev pub merged : Table T → ℕ → View T → ℕ → View T → Table T
  merged s id both other spent = record { words = s.words; homes = s.homes; views = slice_set (slice_set s.views id both) other spent }

  -- What an action does at the table, where the contract of its call allows it. A phase of so many workers makes no more seats
  abbrev pub TableLeads : ℕ → Table T → TableAction → Table T → Type 0
  TableLeads workers s (DrawBy id) t = (w : WorkerView T) × IsSeat s id w × (w.ended ≡ false) × Turns Draws 0 1 (λ x. (x + 1) % 2 ^ 64) id w s t
  TableLeads workers s (KeepBy id b) t =
      (w : WorkerView T) × IsSeat s id w × (b < w.buffers) × (length w.holds < MOST_HOLDS) × Turns Keeping (b + 1) 1 (λ x. (x + 1) % 2 ^ 64) id w s t
  TableLeads workers s (ReleaseBy id b) t =
      (w : WorkerView T) × IsSeat s id w × (0 < times b w.holds) × Turns Releasing (b + 1) 1 (λ x. (x + (2 ^ 64 - 1)) % 2 ^ 64) id w s t
  TableLeads workers s (LookBy id b) t = (w : WorkerView T) × IsSeat s id w × (0 < times b w.holds) × Turns Looking (b + 1) 0 (λ x. x) id w s t
  TableLeads workers s (TakeBy id) t = (w : WorkerView T) × IsSeat s id w × (t ≡ s)
  TableLeads workers s MakeSeat t = (f : FrameView T) × IsFrame s f × (f.made < workers) × (t ≡ parted s 0 (left_of (Frame f)) (right_of (Frame f)))
  TableLeads workers s (MoveSeat id) t = (w : WorkerView T) × IsSeat s id w × (t ≡ parted s id (moved_left (Worker w)) (moved_right (Worker w)))
  TableLeads workers s (JoinSeat id) t =
      (f : FrameView T) × (w : WorkerView T) × IsFrame s f × IsSeat s id w × (w.holds ≡ []) × (t ≡ merged s 0 (both_of (Frame f) (Worker w)) id Spent)

  -- the worker drew the chunk, or it was assigned to the worker
  abbrev pub Has : Scheduling → Moment T → WorkerView T → ℕ → Type 0
  Has Dynamic m w c = 0 < times c w.drawn
  Has Static m w c = slice_get m.assigned c ≡ Some w.number

  -- What an action does to a moment
  abbrev pub Leads : Scheduling → SetupValue → Moment T → Action → Moment T → Type 0
  Leads kind u m (AtTable x) n = (t : Table T) × TableLeads u.workers m.table x t × (n ≡ record m { table = t })
  Leads Dynamic u m (Assign w) n = ⊥
  Leads Static u m (Assign w) n = (w < u.workers) × (length m.assigned < chunks u) × (n ≡ record m { assigned = m.assigned ++ w ∷ [] })
  Leads kind u m (WriteBy id c) n =
      (w : WorkerView T) × (value : Option (List ℤ)) × IsSeat m.table id w × Has kind m w c
      × (m.work.next c < end u c) × (m.work.stopped c ≡ false) × (slice_get u.cells (m.work.next c) ≡ Some (Ok value))
      × (n ≡ record m { work = wrote u m.work w.number c value })
  Leads kind u m (StopBy id c) n =
      (w : WorkerView T) × (fault : Fault) × IsSeat m.table id w × Has kind m w c
      × (m.work.next c < end u c) × (m.work.stopped c ≡ false) × (slice_get u.cells (m.work.next c) ≡ Some (Err fault))
      × (n ≡ record m { work = met_fault m.work c })

  -- actions of any threads, one after another
  abbrev pub Interleaved : Scheduling → SetupValue → Moment T → List Action → Moment T → Type 0
  Interleaved kind u m [] n = m ≡ n
  Interleaved kind u m (x ∷ xs) n = (k : Moment T) × Leads kind u m x k × Interleaved kind u k xs n

-- Workers that leave when they are through, as the workers of a phase do that draw chunks.
use Rattle.std.specs.Prelude.{◌≡◌, ℕ, ◌<◌, ◌≤◌, true, List, [], ◌∷◌}
use Rattle.wl_core.specs.Machine.{SetupValue}
use Rattle.count_table.specs.declared.view.FrameView.{FrameView}
use Rattle.count_table.specs.declared.view.WorkerView.{WorkerView}
use Rattle.count_table.specs.Views.{times}
use Rattle.phase_schedules.specs.Interleavings.{Action, Assign, AtTable, DrawBy, Interleaved, IsFrame, IsSeat, JoinSeat, KeepBy, LookBy, MakeSeat}
use Rattle.phase_schedules.specs.Interleavings.{MoveSeat, ReleaseBy, StopBy, TableAction, TakeBy, WriteBy}
use Rattle.phase_schedules.specs.Moments.{Moment, Scheduling, Work}
use Rattle.phase_schedules.specs.Readings.{ChunkDone}

-- the worker has drawn until no chunk was left, and each chunk that it drew is done
pub record IsThrough {T : Type 0} (u : SetupValue) (k : Work) (w : WorkerView T) : Type 0 where
  pub ended : w.ended ≡ true
  pub done : (c : ℕ) → 0 < times c w.drawn → ChunkDone u k c

module _ {T : Type 0} where
  -- a seat that leaves by this action is that of a worker that is through
  abbrev pub SeatLeaves : SetupValue → Moment T → TableAction → Type 0
  SeatLeaves u m (DrawBy id) = Unit {0}
  SeatLeaves u m (KeepBy id b) = Unit {0}
  SeatLeaves u m (ReleaseBy id b) = Unit {0}
  SeatLeaves u m (LookBy id b) = Unit {0}
  SeatLeaves u m (TakeBy id) = Unit {0}
  SeatLeaves u m MakeSeat = Unit {0}
  SeatLeaves u m (MoveSeat id) = Unit {0}
  SeatLeaves u m (JoinSeat id) = (w : WorkerView T) → IsSeat m.table id w → IsThrough u m.work w

  abbrev pub LeavesThrough : SetupValue → Moment T → Action → Type 0
  LeavesThrough u m (AtTable x) = SeatLeaves u m x
  LeavesThrough u m (Assign w) = Unit {0}
  LeavesThrough u m (WriteBy id c) = Unit {0}
  LeavesThrough u m (StopBy id c) = Unit {0}

  abbrev pub AllLeaveThrough : (kind : Scheduling) (u : SetupValue) (m : Moment T) (xs : List Action) (n : Moment T) → Interleaved kind u m xs n → Type 0
  AllLeaveThrough kind u m [] n r = Unit {0}
  AllLeaveThrough kind u m (x ∷ xs) n r = LeavesThrough u m x × AllLeaveThrough kind u r.0 xs n r.2

  -- there was a worker, and every seat that was made has left
  abbrev pub WorkersLeft : Moment T → Type 0
  WorkersLeft m = (f : FrameView T) × IsFrame m.table f × (f.out ≡ 0) × (1 ≤ f.made)

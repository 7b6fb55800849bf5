-- Each call that its contract allows is a step, so interleavings leave no call out.
use Rattle.std.specs.Prelude.{◌≡◌, ℕ, ◌<◌, ◌⊎◌, false, [], length}
use Rattle.wl_core.specs.declared.limits.TheConstants.{MOST_HOLDS}
use Rattle.wl_core.specs.Machine.{SetupValue, end}
use Rattle.count_table.specs.declared.view.FrameView.{FrameView}
use Rattle.count_table.specs.declared.view.WorkerView.{WorkerView}
use Rattle.count_table.specs.Views.{times}
use Rattle.phase_schedules.specs.Interleavings.{Action, AtTable, DrawBy, Has, IsFrame, IsSeat, JoinSeat, KeepBy, Leads, LookBy, MakeSeat, MoveSeat}
use Rattle.phase_schedules.specs.Interleavings.{ReleaseBy, StopBy, TakeBy, WriteBy}
use Rattle.phase_schedules.specs.Moments.{Moment, Scheduling}

-- the action leads to some moment
abbrev pub MayAct : {T : Type 0} → Scheduling → SetupValue → Moment T → Action → Type 0
MayAct {T} kind u m x = (n : Moment T) × Leads kind u m x n

-- the premises are those of the calls of `count_table`
pub record CallsAreSteps {T : Type 0} (kind : Scheduling) (u : SetupValue) (m : Moment T) : Type 0 where
  pub seat : (f : FrameView T) → IsFrame m.table f → f.made < u.workers → MayAct kind u m (AtTable MakeSeat)
  pub draw : (id : ℕ) (w : WorkerView T) → IsSeat m.table id w → w.ended ≡ false → MayAct kind u m (AtTable (DrawBy id))
  pub take : (id : ℕ) (w : WorkerView T) → IsSeat m.table id w → MayAct kind u m (AtTable (TakeBy id))
  pub keep : (id : ℕ) (w : WorkerView T) (b : ℕ) → IsSeat m.table id w → b < w.buffers → length w.holds < MOST_HOLDS → MayAct kind u m (AtTable (KeepBy id b))
  pub release : (id : ℕ) (w : WorkerView T) (b : ℕ) → IsSeat m.table id w → 0 < times b w.holds → MayAct kind u m (AtTable (ReleaseBy id b))
  pub look : (id : ℕ) (w : WorkerView T) (b : ℕ) → IsSeat m.table id w → 0 < times b w.holds → MayAct kind u m (AtTable (LookBy id b))
  -- a seat leaves in two steps, the second by its new place
  pub leave : (f : FrameView T) (id : ℕ) (w : WorkerView T) → IsFrame m.table f → IsSeat m.table id w → w.holds ≡ []
      → (n : Moment T) × Leads kind u m (AtTable (MoveSeat id)) n × MayAct kind u n (AtTable (JoinSeat (length m.table.views)))
  -- a worker goes on in a chunk of its own, up to a fault
  pub cell : (id : ℕ) (w : WorkerView T) (c : ℕ) → IsSeat m.table id w → Has kind m w c → m.work.next c < end u c → m.work.stopped c ≡ false
      → MayAct kind u m (WriteBy id c) ⊎ MayAct kind u m (StopBy id c)

-- One run of the machine that goes along with an interleaving, action by action.
use Rattle.std.specs.Prelude.{◌≡◌, ℕ, ◌⊎◌, List, [], ◌∷◌, ◌++◌}
use Rattle.wl_core.specs.declared.events.Event.{Event}
use Rattle.wl_core.specs.declared.events.Event.TheVariants.{Draw, Keep, Release, Stop, Write}
use Rattle.wl_core.specs.Machine.{Runs, SetupValue, StateValue}
use Rattle.count_table.specs.declared.view.WorkerView.{WorkerView}
use Rattle.phase_schedules.specs.Interleavings.{Action, Assign, AtTable, DrawBy, Interleaved, IsSeat, JoinSeat, KeepBy, LookBy, MakeSeat, MoveSeat}
use Rattle.phase_schedules.specs.Interleavings.{ReleaseBy, StopBy, TableAction, TakeBy, WriteBy}
use Rattle.phase_schedules.specs.Moments.{Dynamic, Moment, Scheduling, Static, Table}
use Rattle.phase_schedules.specs.Readings.{IsRunTo}

-- the worker writes cells or meets a fault, and that is all
abbrev pub OnlyOf : ℕ → List Event → Type 0
OnlyOf n [] = Unit {0}
OnlyOf n (Draw v ∷ es) = ⊥
OnlyOf n (Keep v b ∷ es) = ⊥
OnlyOf n (Release v b ∷ es) = ⊥
OnlyOf n (Write v ∷ es) = (v ≡ n) × OnlyOf n es
OnlyOf n (Stop v ∷ es) = (v ≡ n) × OnlyOf n es

-- the worker gets the next chunk, after the machine has done the chunk that it had to its end
abbrev pub GetsNext : ℕ → List Event → Type 0
GetsNext n es = (ahead : List Event) × OnlyOf n ahead × (es ≡ ahead ++ Draw n ∷ [])

-- this event, or none where the machine has done it before
abbrev pub OnceOrBefore : Event → List Event → Type 0
OnceOrBefore e es = (es ≡ e ∷ []) ⊎ (es ≡ [])

module _ {T : Type 0} where
  -- a draw that finds no chunk left is nothing to the machine
  abbrev pub DrawEvents : Scheduling → Table T → ℕ → List Event → Type 0
  DrawEvents Dynamic s id es = (w : WorkerView T) × IsSeat s id w × (GetsNext w.number es ⊎ (es ≡ []))
  DrawEvents Static s id es = es ≡ []

  -- What the machine does where a thread acts at the table: nothing at a look, at the taking of a part, and where seats are made or leave
  abbrev pub AreTableEvents : Scheduling → Table T → TableAction → List Event → Type 0
  AreTableEvents kind s (DrawBy id) es = DrawEvents kind s id es
  AreTableEvents kind s (KeepBy id b) es = (w : WorkerView T) × IsSeat s id w × (es ≡ Keep w.number b ∷ [])
  AreTableEvents kind s (ReleaseBy id b) es = (w : WorkerView T) × IsSeat s id w × (es ≡ Release w.number b ∷ [])
  AreTableEvents kind s (LookBy id b) es = es ≡ []
  AreTableEvents kind s (TakeBy id) es = es ≡ []
  AreTableEvents kind s MakeSeat es = es ≡ []
  AreTableEvents kind s (MoveSeat id) es = es ≡ []
  AreTableEvents kind s (JoinSeat id) es = es ≡ []

  abbrev pub AreEventsOf : Scheduling → Moment T → Action → List Event → Type 0
  AreEventsOf kind m (AtTable x) es = AreTableEvents kind m.table x es
  AreEventsOf kind m (Assign n) es = GetsNext n es
  AreEventsOf kind m (WriteBy id c) es = (w : WorkerView T) × IsSeat m.table id w × OnceOrBefore (Write w.number) es
  AreEventsOf kind m (StopBy id c) es = (w : WorkerView T) × IsSeat m.table id w × OnceOrBefore (Stop w.number) es

  -- from this state on, the machine goes along with the actions: each moment stands for the state that its events lead to
  abbrev pub RunsAlong : (kind : Scheduling) (u : SetupValue) (m : Moment T) (xs : List Action) (n : Moment T) → Interleaved kind u m xs n → StateValue → Type 0
  RunsAlong kind u m [] n r s = IsRunTo kind u m s
  RunsAlong kind u m (x ∷ xs) n r s =
      IsRunTo kind u m s × ((es : List Event) × (t : StateValue) × AreEventsOf kind m x es × Runs u s es t × RunsAlong kind u r.0 xs n r.2 t)

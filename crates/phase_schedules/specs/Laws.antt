-- What holds of every interleaving, as statements.
use Rattle.std.specs.Prelude.{◌≡◌, ℕ, ◌≤◌, List, length}
use Rattle.wl_core.specs.declared.limits.TheConstants.{MOST_CHUNKS}
use Rattle.wl_core.specs.Machine.{IsSetup, SetupValue, chunks, opened as opened_state}
use Rattle.phase_schedules.specs.Along.{RunsAlong}
use Rattle.phase_schedules.specs.Calls.{CallsAreSteps}
use Rattle.phase_schedules.specs.Interleavings.{Action, Interleaved}
use Rattle.phase_schedules.specs.Leaving.{AllLeaveThrough, WorkersLeft}
use Rattle.phase_schedules.specs.Moments.{Dynamic, Moment, Scheduling, Static, open_moment}
use Rattle.phase_schedules.specs.Readings.{AllLeft, CellsDone, Ends, Stands}

-- where chunks are drawn, the table has a part for each
abbrev pub HasParts : Scheduling → SetupValue → ℕ → Type 0
HasParts Dynamic u parts = parts ≡ chunks u
HasParts Static u parts = Unit {0}

-- the actions lead from the opening to the moment
pub record IsInterleaving {T : Type 0} (kind : Scheduling) (u : SetupValue) (parts : List T) (xs : List Action) (m : Moment T) : Type 0 where
  pub setup : IsSetup u
  pub parts_are : HasParts kind u (length parts)
  pub few : length parts ≤ MOST_CHUNKS
  pub steps : Interleaved kind u (open_moment u parts) xs m

abbrev pub InterleavingsAreRuns : Type 0 → Type 0
InterleavingsAreRuns T =
    (kind : Scheduling) (u : SetupValue) (parts : List T) (xs : List Action) (m : Moment T) → IsInterleaving kind u parts xs m → Stands kind u m

-- one run of the machine, from its opening, goes along with all actions
abbrev pub MachineRunsAlong : Type 0 → Type 0
MachineRunsAlong T =
    (kind : Scheduling) (u : SetupValue) (parts : List T) (xs : List Action) (m : Moment T) (i : IsInterleaving kind u parts xs m)
    → RunsAlong kind u (open_moment u parts) xs m i.steps (opened_state u)

-- each call that its contract allows goes on with an interleaving
abbrev pub CallsGoOn : Type 0 → Type 0
CallsGoOn T =
    (kind : Scheduling) (u : SetupValue) (parts : List T) (xs : List Action) (m : Moment T) → IsInterleaving kind u parts xs m → CallsAreSteps kind u m

abbrev pub FinishedInterleavingsAgree : Type 0 → Type 0
FinishedInterleavingsAgree T =
    (kind : Scheduling) (u : SetupValue) (parts : List T) (xs : List Action) (m : Moment T)
    → IsInterleaving kind u parts xs m → AllLeft m → CellsDone u m.work → Ends kind u m

-- The same with no word on chunks, where they are drawn and each worker leaves when it is through
abbrev pub LeaversAgree : Type 0 → Type 0
LeaversAgree T =
    (u : SetupValue) (parts : List T) (xs : List Action) (m : Moment T) (i : IsInterleaving Dynamic u parts xs m)
    → AllLeaveThrough Dynamic u (open_moment u parts) xs m i.steps → WorkersLeft m → Ends Dynamic u m

-- What the workers of a phase begin with, and what they leave.
use Rattle.std.specs.Prelude.{◌≡◌, ℕ, ◌+◌, ◌-◌, ◌*◌, ◌<◌, ◌≤◌, vec_len, vec_capacity, Bool, List, [], Option, None, Some}
use Rattle.std.specs.Prelude.{◌∷◌, Vec}
use Rattle.std.specs.Global.{Global}
use Rattle.count_table.specs.Seats.{WorkerState, FrameState}
use Rattle.phase_chunks.specs.Chunks.{ChunkPart, ChunkReport}
use Rattle.phase_draws.specs.declared.rooms.Rooms.{Rooms}

-- whether its last draw found no chunk left
abbrev pub IsGoing : Bool → Option (WorkerState ChunkPart) → Type 0
IsGoing over None = ⊥
IsGoing over (Some seat) = seat.ended ≡ over

-- the chunks that it drew
abbrev pub drawn_by : Option (WorkerState ChunkPart) → List ℕ
drawn_by None = []
drawn_by (Some seat) = seat.drawn

-- a seat came back that had drawn until no chunk was left
pub record IsSettled (before after : FrameState ChunkPart) : Type 0 where
  pub phase : after.phase ≡ before.phase
  pub opening : after.opening ≡ before.opening
  pub made : after.made ≡ before.made
  pub out : after.out ≡ before.out - 1
  pub ended : after.nones ≡ before.nones + 1

-- every seat that was made has come back
pub record IsBack (before after : FrameState ChunkPart) : Type 0 where
  pub phase : after.phase ≡ before.phase
  pub opening : after.opening ≡ before.opening
  pub out : after.out ≡ before.out
  pub nones : before.nones ≤ after.nones

-- and one at least had drawn until no chunk was left
pub record IsRun (before after : FrameState ChunkPart) : Type 0 where
  pub phase : after.phase ≡ before.phase
  pub opening : after.opening ≡ before.opening
  pub out : after.out ≡ before.out
  pub ended : before.nones < after.nones

-- lists for reports, each empty and with room for so many
abbrev pub AreRooms : ℕ → List (Vec ChunkReport Global) → Type 0
AreRooms n [] = Unit {0}
AreRooms n (v ∷ vs) = (v.items ≡ []) × (n ≤ vec_capacity v) × AreRooms n vs

-- there is room for the reports of so many workers, each of which may draw so many chunks
pub record HaveRoom (chunks workers : ℕ) (rooms : Rooms) : Type 0 where
  pub mine : rooms.mine.items ≡ []
  pub own : chunks ≤ vec_capacity rooms.mine
  pub count : vec_len rooms.others + 1 ≡ workers
  pub others : AreRooms chunks rooms.others.items
  pub empty : rooms.reports.items ≡ []
  pub all : workers * chunks ≤ vec_capacity rooms.reports

-- The workers of a phase, before and after they draw.
use Rattle.std.specs.Prelude.{◌≡◌, ℕ, ◌+◌, ◌*◌, ◌≤◌, vec_len, vec_capacity, length, map, false, true, [], Option, Vec}
use Rattle.std.specs.Global.{Global}
use Rattle.count_table.specs.Seats.{PhaseId, WorkerState}
use Rattle.phase_chunks.specs.Chunks.{ChunkPart, ChunkReport}
use Rattle.phase_chunks.specs.Seats.{IsFresh, Suits}
use Rattle.phase_draws.specs.Crews.{AreRooms, IsGoing, drawn_by}
use Rattle.phase_draws.specs.Reports.{AreDone, AreFrames, PartsFit}
use Rattle.phase_draws.specs.declared.members.Roster.{Roster}
use Rattle.phase_chunks.specs.declared.shares.Share.{Share}
use Rattle.wl_core.specs.Machine.{CellValue}

-- these cells may be computed in such shares, and the table has a part for each chunk
pub record SuitsTable (cell : ℕ → CellValue) (positions width shared : ℕ) (table : PhaseId ChunkPart) (share : Share) : Type 0 where
  pub suits : Suits cell positions width shared table.buffers share
  pub parts : PartsFit share table.parts

-- a worker that has drawn nothing yet, and has room for a report of each chunk
pub record Begins (table : PhaseId ChunkPart) (seat : Option (WorkerState ChunkPart)) (reports : Vec ChunkReport Global) : Type 0 where
  pub fresh : IsFresh table seat
  pub going : IsGoing false seat
  pub undrawn : drawn_by seat ≡ []
  pub empty : reports.items ≡ []
  pub room : length table.parts ≤ vec_capacity reports

-- a worker that has drawn until no chunk was left, and reported each of its chunks
pub record IsThrough (cell : ℕ → CellValue) (share : Share) (table : PhaseId ChunkPart) (seat : Option (WorkerState ChunkPart))
    (reports : Vec ChunkReport Global) : Type 0 where
  pub fresh : IsFresh table seat
  pub over : IsGoing true seat
  pub done : AreDone cell share table.parts reports.items
  pub drawn : map (λ (r : ChunkReport). r.chunk) reports.items ≡ drawn_by seat
  pub few : length reports.items ≤ length table.parts

-- so many workers more may begin, and there is room for what they report
pub record HasPlaces (cell : ℕ → CellValue) (share : Share) (table : PhaseId ChunkPart) (workers : ℕ) (roster : Roster) : Type 0 where
  pub phase : roster.frame.phase ≡ table
  pub made : roster.frame.made + workers ≤ 64
  pub begun : roster.begun + workers ≤ 64
  pub rooms : AreRooms (length table.parts) roster.rooms.items
  pub done : AreDone cell share table.parts roster.reports.items
  pub frames : AreFrames roster.reports.items roster.frame
  pub space : vec_len roster.reports + workers * length table.parts ≤ vec_capacity roster.reports

-- so many workers came back, at most, and their reports are behind those that were there
pub record CameBack (cell : ℕ → CellValue) (share : Share) (table : PhaseId ChunkPart) (workers : ℕ) (before after : Roster) : Type 0 where
  pub done : AreDone cell share table.parts after.reports.items
  pub frames : AreFrames after.reports.items after.frame
  pub few : vec_len after.reports ≤ vec_len before.reports + workers * length table.parts
  pub capacity : vec_capacity after.reports ≡ vec_capacity before.reports

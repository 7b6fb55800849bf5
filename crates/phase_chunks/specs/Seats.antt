-- What a worker begins a chunk with.
use Rattle.std.specs.Prelude.{◌≡◌, ℕ, ◌<◌, ◌≤◌, [], Option, None, Some, Ok}
use Rattle.count_table.specs.Seats.{PhaseId, WorkerState}
use Rattle.phase_chunks.specs.Chunks.{ChunkPart}
use Rattle.phase_chunks.specs.declared.shares.Share.{Share}
use Rattle.phase_chunks.specs.declared.work.CellWork.{CellWork}
use Rattle.phase_chunks.specs.declared.work.CellWorker.{CellWorker}
use Rattle.phase_team.specs.Segments.{Costs}
use Rattle.wl_core.specs.Machine.{CellValue, IsFold, TakesBase}

-- these cells may be computed in such shares, where the table has so many shared buffers
pub record Suits (cell : ℕ → CellValue) (positions width shared buffers : ℕ) (share : Share) : Type 0 where
  pub shared_is : buffers ≡ shared
  pub width_is : share.width ≡ width
  pub size : 1 ≤ share.size
  pub few : positions ≤ 16777216
  pub within : share.positions ≤ positions
  pub takes : TakesBase share.job
  pub held : (p : ℕ) → p < positions → cell p ≡ Ok None → IsFold share.job

-- the same of what is computed in a phase
abbrev pub IsSuited : {C : Type 0} → (C → ℕ → CellValue) → (positions width shared : C → ℕ) → CellWork C → Type 0
IsSuited cell positions width shared work =
    Suits (cell work.cells.now) (positions work.cells.now) (width work.cells.now) (shared work.cells.now) work.table.now.buffers work.share

-- so many cells from one on have cost what the worker has counted meanwhile
abbrev pub HasSpent : {C W : Type 0} → (C → ℕ → ℕ → ℕ) → (C → W → ℕ → ℕ) → CellWork C → ℕ → ℕ → CellWorker W → CellWorker W → Type 0
HasSpent cost spent work start n old new = Costs (cost work.cells.now) start n (spent work.cells.now old.context) (spent work.cells.now new.context)

-- a seat that holds nothing
pub record IsFreshSeat (table : PhaseId ChunkPart) (seat : WorkerState ChunkPart) : Type 0 where
  pub phase : seat.phase ≡ table
  pub holds : seat.holds ≡ []

-- such a seat is there
abbrev pub IsFresh : PhaseId ChunkPart → Option (WorkerState ChunkPart) → Type 0
IsFresh table None = ⊥
IsFresh table (Some seat) = IsFreshSeat table seat

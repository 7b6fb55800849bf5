-- What workers tell of the chunks that they drew.
use Rattle.std.specs.Prelude.{◌≡◌, ℕ, ◌+◌, ◌*◌, ◌<◌, ◌≤◌, ◌++◌, ℤ, List, [], ◌∷◌, length, map, take, slice_get}
use Rattle.std.specs.Prelude.{Result, IfOk, IsOk, Bool, Option, None, Some, MatchOption}
use Rattle.buffer_parts.specs.Spans as spans
use Rattle.buffer_parts.specs.Spans.{Span}
use Rattle.count_table.specs.Seats.{FrameState}
use Rattle.phase_chunks.specs.Chunks.{ChunkPart, ChunkReport, cells_of, count_of, partial_of, IsDone, PartFits}
use Rattle.sac_base.specs.declared.memory.Memory.{Memory}
use Rattle.sac_base.specs.Verdict.{each}
use Rattle.sac_base.specs.declared.op.Op.{Op}
use Rattle.wl_core.specs.declared.setup.Job.{Job}
use Rattle.wl_core.specs.declared.setup.Job.TheVariants.{Write as Store, Fold}
use Rattle.wl_core.specs.Machine.{CellValue, combine, both}
use Rattle.phase_chunks.specs.declared.shares.Share.{Share}
use Rattle.phase_team.specs.Segments.{cost_from, value_if, Same}

-- each chunk has a position, and its part is as long as its positions ask
abbrev pub PartsFit : Share → List ChunkPart → Type 0
PartsFit share parts =
    (c : ℕ) (part : ChunkPart) → slice_get parts c ≡ Some part
    → (c * share.size < share.positions) × PartFits share.job (count_of share c * share.width) part

-- a report is one of a chunk that the phase has
abbrev pub IsReport : (ℕ → CellValue) → Share → List ChunkPart → ChunkReport → Type 0
IsReport cell share parts r =
    MatchOption (slice_get parts r.chunk) ⊥ (λ part. IsDone share.job share.width (cells_of cell share r.chunk) part r.part r.end)

abbrev pub AreDone : (ℕ → CellValue) → Share → List ChunkPart → List ChunkReport → Type 0
AreDone cell share parts [] = Unit {0}
AreDone cell share parts (r ∷ rs) = IsReport cell share parts r × AreDone cell share parts rs

-- no cell of these chunks faults, and memory was not wanting
abbrev pub AllOk : List ChunkReport → Type 0
AllOk [] = Unit {0}
AllOk (r ∷ rs) = IsOk r.end × AllOk rs

-- what the cells of these chunks cost together
abbrev pub cost_of : (ℕ → ℕ) → Share → List ChunkReport → ℕ
cost_of cost share [] = 0
cost_of cost share (r ∷ rs) = cost_from cost (r.chunk * share.size) (count_of share r.chunk) + cost_of cost share rs

abbrev pub CostOf : (ℕ → ℕ → ℕ) → Share → List ChunkReport → (ℕ → ℕ) → (ℕ → ℕ) → Type 0
CostOf cost share rs before after = (kind : ℕ) → Same kind (after kind) (before kind + cost_of (cost kind) share rs)

-- the values of these chunks, combined
abbrev pub gathered : Op → (ℕ → CellValue) → Share → List ChunkReport → Option (List ℤ)
gathered op cell share [] = None
gathered op cell share (r ∷ rs) = both (combine op) (partial_of op (each (cells_of cell share r.chunk))) (gathered op cell share rs)

-- the first row of a fold has them
abbrev pub Combine : Job → (ℕ → CellValue) → Share → List ChunkReport → Bool → List ℤ → Type 0
Combine Store cell share rs held rows = Unit {0}
Combine (Fold base op) cell share rs held rows = value_if held (take share.width rows) ≡ gathered op cell share rs

abbrev pub AreCombined : (ℕ → CellValue) → Share → List ChunkReport → Bool → List ℤ → Type 0
AreCombined cell share rs held rows = Combine share.job cell share rs held rows

-- the reports are those of the chunks that the seats had drawn which came back
abbrev pub AreFrames : List ChunkReport → FrameState ChunkPart → Type 0
AreFrames rs frame = map (λ (r : ChunkReport). r.chunk) rs ≡ map (λ (p : ℕ × ℕ). p.0) frame.drawn

-- so many workers have three rows each
abbrev pub HasRowsFor : Job → ℕ → ℕ → ℕ → Type 0
HasRowsFor Store width workers len = Unit {0}
HasRowsFor (Fold base op) width workers len = len ≡ workers * (width + (width + width))

-- What more chunks cost, and that the first row of a fold has their values combined
abbrev pub Told : (ℕ → CellValue) → (ℕ → ℕ → ℕ) → Share → List ChunkReport → (ℕ → ℕ) → (ℕ → ℕ) → Bool → List ℤ → Type 0
Told cell cost share more before after held rows =
    AllOk more → CostOf cost share more before after × AreCombined cell share more held rows

-- More reports came behind those that were there. Where none of them stopped, this is what their cells cost, and the first row of a
-- fold has their values combined
abbrev pub Grew : (ℕ → CellValue) → (ℕ → ℕ → ℕ) → Share → List ChunkReport → List ChunkReport → (ℕ → ℕ) → (ℕ → ℕ) → List ℤ
    → Result Bool Memory → Type 0
Grew cell cost share old new before after rows result =
    (more : List ChunkReport) × (new ≡ old ++ more) × IfOk result (λ held. Told cell cost share more before after held rows)

-- The same of a worker's own reports and those of others, which were put behind those that were there.
abbrev pub GrewBoth : (ℕ → CellValue) → (ℕ → ℕ → ℕ) → Share → List ChunkReport → List ChunkReport → List ChunkReport
    → (ℕ → ℕ) → (ℕ → ℕ) → (ℕ → ℕ) → (ℕ → ℕ) → List ℤ
    → Result Bool Memory → Type 0
GrewBoth cell cost share mine old new kept kept' spent spent' rows result =
    (more : List ChunkReport) × (new ≡ old ++ more) × IfOk result (λ held. AllOk more → AllOk mine
    → CostOf cost share more kept kept' × CostOf cost share mine spent spent' × AreCombined cell share (more ++ mine) held rows)

-- the parts are those of n chunks, which have all positions
pub record IsLent (share : Share) (n : ℕ) (parts : List (Span ℤ)) : Type 0 where
  pub lengths : map (λ (p : Span ℤ). length p.cells) parts ≡ spans.lengths (share.size * share.width) n (share.positions * share.width)
  pub filled : (k : ℕ) → k < n → k * share.size < share.positions
  pub covers : share.positions ≤ n * share.size
  pub few : n ≤ 4096

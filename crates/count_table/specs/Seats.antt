-- A phase and its seats as callers see them.
use Rattle.std.specs.Prelude.{◌≡◌, ℕ, ◌+◌, ◌-◌, ◌<◌, ◌≤◌, Bool, true, cond, List, [], ◌∷◌, ◌++◌, map, length, slice_get, All}
use Rattle.atomic_table.specs.Seated.{TableId}
use Rattle.std.specs.declared.option.Option.{Option}
use Rattle.std.specs.declared.option.Option.TheVariants.{None, Some}
use Rattle.atomic_table.specs.Table.{Me, rest}
use Rattle.sac_base.specs.declared.limits.TheConstants.{MOST_REFERENCES}
use Rattle.count_table.specs.declared.view.FrameView.{FrameView}
use Rattle.count_table.specs.declared.view.WorkerView.{WorkerView}
use Rattle.count_table.specs.declared.view.View.{View}
use Rattle.count_table.specs.declared.view.View.TheVariants.{Frame, Worker}
use Rattle.count_table.specs.Views.{times, worker_of, frame_of}

-- which phase it is, the parts of its chunks, and how many shared buffers it has
pub record PhaseId (T : Type 0) : Type 0 where
  pub table : TableId
  pub parts : List T
  pub buffers : ℕ

pub record WorkerState (T : Type 0) : Type 0 where
  pub phase : PhaseId T
  pub number : ℕ
  -- the shared buffers that it holds, one as often as it is held
  pub holds : List ℕ
  pub drawn : List ℕ
  -- its last draw found no chunk left
  pub ended : Bool
  -- the chunk that was drawn last, whose part was not taken since
  pub ready : Option ℕ

pub record FrameState (T : Type 0) : Type 0 where
  pub phase : PhaseId T
  pub opening : List ℕ
  -- how many worker seats were made, and how many have not left
  pub made : ℕ
  pub out : ℕ
  -- the chunks of the seats that left, each with the number of its seat
  pub drawn : List (ℕ × ℕ)
  -- how many of the seats that left had drawn until no chunk was left
  pub nones : ℕ

-- counts that buffers may have when a phase opens
abbrev pub AreReferences : List ℕ → Type 0
AreReferences counts = All (λ n. (1 ≤ n) × (n ≤ MOST_REFERENCES)) counts

module _ {T : Type 0} where
  abbrev pub phase_of : TableId → List T → ℕ → PhaseId T
  phase_of t p b = record { table = t; parts = p; buffers = b }

  abbrev pub worker_state : TableId → WorkerView T → Option ℕ → WorkerState T
  worker_state t w ready = record { phase = phase_of t w.parts w.buffers; number = w.number; holds = w.holds; drawn = w.drawn; ended = w.ended; ready = ready }

  abbrev pub frame_state : TableId → FrameView T → FrameState T
  frame_state t f = record { phase = phase_of t f.parts (length f.opening); opening = f.opening; made = f.made; out = f.out; drawn = f.drawn; nones = f.nones }

  -- a phase that was just opened with these counts, and the frame's seat
  abbrev pub IsOpened : List ℕ → PhaseId T → FrameState T → Type 0
  IsOpened counts p f = (p.buffers ≡ length counts) × (f ≡ record { phase = p; opening = counts; made = 0; out = 0; drawn = []; nones = 0 })

  -- a seat that drew the chunk c, and one that found none left
  abbrev pub drew : WorkerState T → ℕ → WorkerState T
  drew w c = record w { drawn = w.drawn ++ c ∷ []; ready = Some c }

  abbrev pub ended : WorkerState T → WorkerState T
  ended w = record w { ended = true; ready = None }

  -- the frame's seat, to which a seat came back
  abbrev pub left : FrameState T → WorkerState T → FrameState T
  left f w = record f { out = f.out - 1; drawn = f.drawn ++ map (λ c. (c, w.number)) w.drawn; nones = f.nones + cond w.ended 1 0 }

  -- each buffer that a worker holds is one of the phase
  abbrev pub HoldsWithin : WorkerView T → Type 0
  HoldsWithin w = (b : ℕ) → 0 < times b w.holds → b < w.buffers

  -- the slot that was taken last has the part that is ready
  abbrev pub IsReady : Option ℕ → WorkerView T → List (ℕ × Option T) → Type 0
  IsReady None w held = Unit {0}
  IsReady (Some n) w held = (n < length w.parts) × (held ≡ (n, slice_get w.parts n) ∷ rest held)

  abbrev pub IsWorker : Me (Option T) (View T) → Type 0
  IsWorker m = m.0 ≡ Worker (worker_of m.0)

  abbrev pub IsFrame : Me (Option T) (View T) → Type 0
  IsFrame m = m ≡ (Frame (frame_of m.0), [])

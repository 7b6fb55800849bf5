-- A seat that came back to the frame's.
use Rattle.std.proofs.Common.{◌≡◌, ℕ, List, ◌++◌, map, sym, ap, ◌∙◌}
use Rattle.std.proofs.lemmas.List.{map-append}
use Rattle.count_table.specs.Seats.{WorkerState, FrameState, left}
use Rattle.count_table.proofs.Totals.{firsts}
use Rattle.phase_chunks.specs.Chunks.{ChunkPart, ChunkReport}
use Rattle.phase_draws.specs.Reports.{AreFrames}

pub frames : (before after : FrameState ChunkPart) (w : WorkerState ChunkPart) (rs mine all : List ChunkReport) → after ≡ left before w → map (λ (r : ChunkReport). r.chunk) mine ≡ w.drawn → AreFrames rs before → all ≡ rs ++ mine
    → AreFrames all after
frames before after w rs mine all is drawn sofar both =
    ap (λ (l : List ChunkReport). map (λ (r : ChunkReport). r.chunk) l) both ∙ map-append (λ (r : ChunkReport). r.chunk) rs mine ∙ (λ j. sofar j ++ drawn j)
    ∙ sym (firsts before.drawn w.drawn w.number) ∙ sym (ap (λ (f : FrameState ChunkPart). map (λ (p : ℕ × ℕ). p.0) f.drawn) is)

-- A whole phase's reports.
use Rattle.std.proofs.Common.{◌≡◌, ℕ, zero, suc, ◌*◌, ◌<◌, ◌≤◌, Bool, ℤ, List, [], ◌∷◌, length, map, cond, Some, Result, Ok, Err, IfOk, refl, sym, ap, subst, ◌∙◌, arith}
use Rattle.std.specs.Prelude.{slice_get, nat_lt}
use Rattle.std.specs.List.Sorted.{IsPermutation}
use Rattle.std.proofs.lemmas.List.{length-map}
use Rattle.sac_base.specs.Verdict.{fold_op}
use Rattle.sac_base.specs.declared.memory.Memory.{Memory}
use Rattle.chunk_reports.specs.Orders.{EachOnce}
use Rattle.count_table.specs.Seats.{FrameState}
use Rattle.count_table.specs.Views.{times}
use Rattle.wl_core.specs.declared.setup.Job.{Job}
use Rattle.wl_core.specs.declared.setup.Job.TheVariants.{Write as Store, Fold}
use Rattle.wl_core.specs.Machine.{CellValue, TakesBase}
use Rattle.wl_core.proofs.FoldLaws.{foldable, elementwise-foldable}
use Rattle.phase_team.specs.Segments.{Costs}
use Rattle.phase_chunks.specs.declared.shares.Share.{Share}
use Rattle.phase_chunks.specs.Chunks.{ChunkPart, ChunkReport}
use Rattle.phase_draws.specs.Reports.{AllOk, AreFrames, Combine, Grew, PartsFit, Told}
use Rattle.phase_draws.proofs.Orderly.{costs_all, gathered_sorted, ok_sorted, once_sorted}

abbrev chunk_in : ChunkReport → ℕ
chunk_in r = r.chunk

-- the chunks that a list has parts of begin within the positions
pub filled : (share : Share) (parts : List ChunkPart) → PartsFit share parts → (k : ℕ) → k < length parts → k * share.size < share.positions
filled share parts fits k lt = by parts k lt (λ part at. (fits k part at).0)
  where
    by : (ps : List ChunkPart) (j : ℕ) → j < length ps → ((part : ChunkPart) → slice_get ps j ≡ Some part → k * share.size < share.positions) → k * share.size < share.positions
    by [] j lt f = absurd (omega arith)
    by (p ∷ ps) zero lt f = f p refl
    by (p ∷ ps) (suc j) lt f = by ps j (omega arith) f

-- as many reports as chunks, each there once
pub many : (rs : List ChunkReport) (frame : FrameState ChunkPart) (n : ℕ) → AreFrames rs frame → length frame.drawn ≡ n → length rs ≡ n
many rs frame n are all = sym (length-map rs chunk_in) ∙ ap length are ∙ length-map frame.drawn (λ (p : ℕ × ℕ). p.0) ∙ all

pub once : (rs : List ChunkReport) (frame : FrameState ChunkPart) → AreFrames rs frame → ((x : ℕ) → times x (map (λ (p : ℕ × ℕ). p.0) frame.drawn) ≡ cond (nat_lt x (length frame.drawn)) 1 0)
    → EachOnce (length frame.drawn) (map chunk_in rs)
once rs frame are each x = ap (times x) are ∙ each x

pub once_many : (rs : List ChunkReport) (n m : ℕ) → EachOnce n (map chunk_in rs) → n ≡ m → EachOnce m (map chunk_in rs)
once_many rs n m each is = subst (λ (k : ℕ). EachOnce k (map chunk_in rs)) is each

-- what a team told, of the reports in order
pub told_sorted : (cell : ℕ → CellValue) (cost : ℕ → ℕ → ℕ) (share : Share) → TakesBase share.job → (n : ℕ) (rs qs : List ChunkReport) (h k : ℕ → ℕ) (rows : List ℤ) (end : Result Bool Memory)
    → Grew cell cost share [] rs h k rows end → IsPermutation rs qs → EachOnce n (map chunk_in rs) → ((j : ℕ) → j < n → j * share.size < share.positions) → share.positions ≤ n * share.size
    → IfOk end (λ held. AllOk qs → Costs cost 0 share.positions h k × Combine share.job cell share qs held rows)
told_sorted cell cost share takes n rs qs h k rows end grew same once filled covers = by end grew.2
  where
    sorted : (job : Job) → TakesBase job → (held : Bool) → Combine job cell share rs held rows → Combine job cell share qs held rows
    sorted Store takes held c = tt
    sorted (Fold base op) takes held c =
        let laws = elementwise-foldable (fold_op op) (foldable base op takes) in
        c ∙ gathered_sorted op laws cell share n rs qs once (once_sorted n rs qs same once)

    by : (r : Result Bool Memory) → IfOk r (λ held. Told cell cost share grew.0 h k held rows)
        → IfOk r (λ held. AllOk qs → Costs cost 0 share.positions h k × Combine share.job cell share qs held rows)
    by (Ok held) told = λ fine.
        let t = subst (λ (l : List ChunkReport). Told cell cost share l h k held rows) (sym grew.1) told (ok_sorted rs qs same fine) in
        (costs_all cost share n rs h k once filled covers t.0, sorted share.job takes held t.1)
    by (Err e) told = tt

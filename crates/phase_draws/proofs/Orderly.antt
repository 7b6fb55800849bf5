-- Reports put in order, and totals of all chunks.
use Rattle.std.proofs.Common.{◌≡◌, ℕ, ◌+◌, ◌*◌, ◌<◌, ◌≤◌, ℤ, List, [], ◌∷◌, map, Option, refl, sym, ap, ◌∙◌}
use Rattle.std.specs.Prelude.{All, IsOk}
use Rattle.std.specs.List.Sorted.{IsPermutation}
use Rattle.std.proofs.lemmas.List.Elements.{All-nil, All-cons, All-head, All-tail}
use Rattle.std.proofs.lemmas.List.Sorted.{All-permutation, IsPermutation-sym}
use Rattle.chunk_reports.specs.Orders.{EachOnce, combined_over, sum_over}
use Rattle.chunk_reports.proofs.Ascending.{same_times}
use Rattle.chunk_reports.proofs.Totals.{combined_once, sum_once}
use Rattle.sac_base.specs.Verdict.{each}
use Rattle.sac_base.specs.declared.op.Op.{Op}
use Rattle.wl_core.specs.Combining.{IsFoldable}
use Rattle.wl_core.specs.Machine.{CellValue, combine, both}
use Rattle.phase_team.specs.Segments.{cost_from, Costs}
use Rattle.phase_team.proofs.Sequences.{same_of, same_then}
use Rattle.phase_chunks.specs.declared.shares.Share.{Share}
use Rattle.phase_chunks.specs.Chunks.{cells_of, count_of, partial_of, ChunkPart, ChunkReport}
use Rattle.phase_draws.specs.Reports.{AllOk, AreDone, CostOf, IsReport, cost_of, gathered}
use Rattle.phase_draws.proofs.Chunked.{begin_last, cost_chunks}

abbrev chunk_in : ChunkReport → ℕ
chunk_in r = r.chunk

abbrev IsFine : ChunkReport → Type 0
IsFine r = IsOk r.end

module _ (cell : ℕ → CellValue) (share : Share) (parts : List ChunkPart) where
  done_all : (rs : List ChunkReport) → AreDone cell share parts rs → All (IsReport cell share parts) rs
  done_all [] all = All-nil (IsReport cell share parts)
  done_all (r ∷ rs) all = All-cons (IsReport cell share parts) r rs all.0 (done_all rs all.1)

  all_done : (rs : List ChunkReport) → All (IsReport cell share parts) rs → AreDone cell share parts rs
  all_done [] all = tt
  all_done (r ∷ rs) all = (All-head (IsReport cell share parts) r rs all, all_done rs (All-tail (IsReport cell share parts) r rs all))

  pub done_sorted : (rs qs : List ChunkReport) → IsPermutation rs qs → AreDone cell share parts rs → AreDone cell share parts qs
  done_sorted rs qs same all = all_done qs (All-permutation (IsReport cell share parts) rs qs same (done_all rs all))

fine_all : (rs : List ChunkReport) → AllOk rs → All IsFine rs
fine_all [] all = All-nil IsFine
fine_all (r ∷ rs) all = All-cons IsFine r rs all.0 (fine_all rs all.1)

all_fine : (rs : List ChunkReport) → All IsFine rs → AllOk rs
all_fine [] all = tt
all_fine (r ∷ rs) all = (All-head IsFine r rs all, all_fine rs (All-tail IsFine r rs all))

-- where none stopped in one order, none did in the other
pub ok_sorted : (rs qs : List ChunkReport) → IsPermutation rs qs → AllOk qs → AllOk rs
ok_sorted rs qs same all = all_fine rs (All-permutation IsFine qs rs (IsPermutation-sym rs qs same) (fine_all qs all))

-- each chunk is there once in the other order too
pub once_sorted : (n : ℕ) (rs qs : List ChunkReport) → IsPermutation rs qs → EachOnce n (map chunk_in rs) → EachOnce n (map chunk_in qs)
once_sorted n rs qs same once x = same_times x rs qs same ∙ once x

-- ---- totals

cost_over : (cost : ℕ → ℕ) (share : Share) (rs : List ChunkReport) → cost_of cost share rs ≡ sum_over (λ c. cost_from cost (c * share.size) (count_of share c)) (map chunk_in rs)
cost_over cost share [] = refl
cost_over cost share (r ∷ rs) = ap (λ (n : ℕ). cost_from cost (r.chunk * share.size) (count_of share r.chunk) + n) (cost_over cost share rs)

-- chunks that are each there once cost what all positions cost
pub costs_all : (cost : ℕ → ℕ → ℕ) (share : Share) (n : ℕ) (rs : List ChunkReport) (a b : ℕ → ℕ) → EachOnce n (map chunk_in rs) → ((k : ℕ) → k < n → k * share.size < share.positions)
    → share.positions ≤ n * share.size → CostOf cost share rs a b → Costs cost 0 share.positions a b
costs_all cost share n rs a b once filled covers costs kind =
    let all : cost_of (cost kind) share rs ≡ cost_from (cost kind) 0 share.positions =
    cost_over (cost kind) share rs ∙ sum_once (λ c. cost_from (cost kind) (c * share.size) (count_of share c)) n (map chunk_in rs) once
    ∙ cost_chunks share (cost kind) n filled ∙ ap (cost_from (cost kind) 0) (begin_last share n covers) in
    same_then kind (b kind) (a kind + cost_of (cost kind) share rs) (a kind + cost_from (cost kind) 0 share.positions) (costs kind)
    (same_of kind (a kind + cost_of (cost kind) share rs) (a kind + cost_from (cost kind) 0 share.positions) (ap (λ (n : ℕ). a kind + n) all))

gathered_over : (op : Op) (cell : ℕ → CellValue) (share : Share) (rs : List ChunkReport) → gathered op cell share rs ≡ combined_over (combine op) (λ c. partial_of op (each (cells_of cell share c))) (map chunk_in rs)
gathered_over op cell share [] = refl
gathered_over op cell share (r ∷ rs) = ap (λ (o : Option (List ℤ)). both (combine op) (partial_of op (each (cells_of cell share r.chunk))) o) (gathered_over op cell share rs)

-- and what they are combined does not depend on their order
pub gathered_sorted : (op : Op) → IsFoldable (combine op) → (cell : ℕ → CellValue) (share : Share) (n : ℕ) (rs qs : List ChunkReport) → EachOnce n (map chunk_in rs) → EachOnce n (map chunk_in qs)
    → gathered op cell share rs ≡ gathered op cell share qs
gathered_sorted op laws cell share n rs qs once same =
    let value : ℕ → Option (List ℤ) = λ c. partial_of op (each (cells_of cell share c)) in
    gathered_over op cell share rs ∙ combined_once (combine op) laws value n (map chunk_in rs) once ∙ sym (combined_once (combine op) laws value n (map chunk_in qs) same) ∙ sym (gathered_over op cell share qs)

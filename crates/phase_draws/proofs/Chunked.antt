-- Positions chunk by chunk.
use Rattle.std.proofs.Common.{◌≡◌, ℕ, zero, suc, ◌+◌, ◌*◌, ◌<◌, ◌≤◌, min, List, [], ◌++◌, append-nil, sym, ap, ◌∙◌, arith}
use Rattle.std.proofs.Math.Nat.{suc-mul}
use Rattle.std.proofs.lemmas.List.{append_assoc}
use Rattle.chunk_reports.specs.Orders.{sum_upto}
use Rattle.wl_core.specs.Machine.{CellValue}
use Rattle.phase_team.specs.Segments.{cells_from, cost_from}
use Rattle.phase_team.proofs.Sequences.{cells-append, cost-append}
use Rattle.phase_chunks.specs.declared.shares.Share.{Share}
use Rattle.phase_chunks.specs.Chunks.{cells_of, count_of}

-- the cells of k chunks from the chunk c on
abbrev pub chunk_cells : (ℕ → CellValue) → Share → ℕ → ℕ → List CellValue
chunk_cells cell share c zero = []
chunk_cells cell share c (suc k) = cells_of cell share c ++ chunk_cells cell share (c + 1) k

module _ (share : Share) where
  -- where the chunk c begins, or the end
  abbrev pub begin_of : ℕ → ℕ
  begin_of c = min (c * share.size) share.positions

  pub begins : (c : ℕ) → c * share.size < share.positions → begin_of c ≡ c * share.size
  begins c lt = omega arith

  pub begin_next : (c : ℕ) → c * share.size < share.positions → begin_of (c + 1) ≡ begin_of c + count_of share c
  begin_next c lt =
      let e : (c + 1) * share.size ≡ c * share.size + share.size = ap (λ (n : ℕ). n * share.size) (let k : c + 1 ≡ suc c = omega arith in k) ∙ suc-mul c share.size in
      omega arith

  pub begin_first : begin_of 0 ≡ 0
  begin_first = let z : 0 * share.size ≡ 0 = omega arith in omega arith

  pub begin_last : (n : ℕ) → share.positions ≤ n * share.size → begin_of n ≡ share.positions
  begin_last n le = omega arith

  -- what chunks cost together
  pub cost_chunks : (cost : ℕ → ℕ) (n : ℕ) → ((k : ℕ) → k < n → k * share.size < share.positions)
      → sum_upto (λ c. cost_from cost (c * share.size) (count_of share c)) n ≡ cost_from cost 0 (begin_of n)
  cost_chunks cost zero filled = let z : cost_from cost 0 (begin_of 0) ≡ cost_from cost 0 0 = ap (cost_from cost 0) begin_first in sym z
  cost_chunks cost (suc n) filled =
      let ih = cost_chunks cost n (λ k lt. filled k (omega arith)) in
      let lt = filled n (omega arith) in
      let one : suc n ≡ n + 1 = omega arith in
      let both = cost-append cost 0 (begin_of n) (count_of share n) in
      let at : cost_from cost (0 + begin_of n) (count_of share n) ≡ cost_from cost (n * share.size) (count_of share n) =
      ap (λ (s : ℕ). cost_from cost s (count_of share n)) (let b = begins n lt in let z : 0 + begin_of n ≡ n * share.size = omega arith in z) in
      let all : cost_from cost 0 (begin_of (suc n)) ≡ cost_from cost 0 (begin_of n + count_of share n) = ap (λ (k : ℕ). cost_from cost 0 (begin_of k)) one ∙ ap (cost_from cost 0) (begin_next n lt) in
      omega arith

  module _ (cell : ℕ → CellValue) where
    -- the cells before a chunk, and those of chunks from it on
    pub cells_chunks : (k c : ℕ) → ((j : ℕ) → j < c + k → j * share.size < share.positions) → cells_from cell 0 (begin_of (c + k)) ≡ cells_from cell 0 (begin_of c) ++ chunk_cells cell share c k
    cells_chunks zero c filled = ap (λ (n : ℕ). cells_from cell 0 (begin_of n)) (let e : c + 0 ≡ c = omega arith in e) ∙ sym (append-nil (cells_from cell 0 (begin_of c)))
    cells_chunks (suc k) c filled =
        let lt = filled c (omega arith) in
        let ih = cells_chunks k (c + 1) (λ j l. filled j (omega arith)) in
        let step : cells_from cell 0 (begin_of (c + 1)) ≡ cells_from cell 0 (begin_of c) ++ cells_of cell share c =
        ap (cells_from cell 0) (begin_next c lt) ∙ cells-append cell 0 (begin_of c) (count_of share c)
        ∙ ap (λ (s : ℕ). cells_from cell 0 (begin_of c) ++ cells_from cell s (count_of share c)) (let b = begins c lt in let z : 0 + begin_of c ≡ c * share.size = omega arith in z) in
        ap (λ (n : ℕ). cells_from cell 0 (begin_of n)) (let e : c + suc k ≡ (c + 1) + k = omega arith in e)
        ∙ ih ∙ ap (λ (l : List CellValue). l ++ chunk_cells cell share (c + 1) k) step
        ∙ append_assoc (cells_from cell 0 (begin_of c)) (cells_of cell share c) (chunk_cells cell share (c + 1) k)

    pub cells_all : (n : ℕ) → ((j : ℕ) → j < n → j * share.size < share.positions) → share.positions ≤ n * share.size → cells_from cell 0 share.positions ≡ chunk_cells cell share 0 n
    cells_all n filled covers =
        ap (cells_from cell 0) (sym (begin_last n covers)) ∙ ap (λ (m : ℕ). cells_from cell 0 (begin_of m)) (let e : n ≡ 0 + n = omega arith in e)
        ∙ cells_chunks n 0 (λ j l. filled j (omega arith)) ∙ ap (λ (m : ℕ). cells_from cell 0 m ++ chunk_cells cell share 0 n) begin_first

-- Reports in the order of their chunks.
use Rattle.std.proofs.Common.{◌≡◌, ℕ, zero, suc, ◌+◌, Bool, ℤ, List, [], ◌∷◌, ◌++◌, length, map, Option, None, Some, Result, Ok, Err, refl, sym, ap, subst, ◌∙◌, arith}
use Rattle.std.specs.Prelude.{IsOk, MatchOption, slice_get}
use Rattle.sac_base.specs.Verdict.{each, present, combined}
use Rattle.sac_base.specs.declared.op.Op.{Op}
use Rattle.sac_base.specs.declared.stop.Stop.{Stop}
use Rattle.sac_base.specs.declared.stop.Stop.TheVariants.{Faulted, Memory}
use Rattle.chunk_reports.specs.Orders.{counting}
use Rattle.chunk_reports.specs.Stops.{first_stop_of, stop_or}
use Rattle.wl_core.specs.declared.setup.Job.{Job}
use Rattle.wl_core.specs.declared.setup.Job.TheVariants.{Write as Store, Fold}
use Rattle.wl_core.specs.Combining.{IsFoldable}
use Rattle.wl_core.specs.Machine.{CellValue, combine, both}
use Rattle.phase_team.specs.Segments.{HaveWidth, Ran}
use Rattle.phase_team.proofs.Sequences.{each-both, each-front, each-back, combined-both, widths_both, widths_none}
use Rattle.phase_chunks.specs.declared.shares.Share.{Share}
use Rattle.phase_chunks.specs.Chunks.{cells_of, partial_of, ChunkPart, ChunkReport, Ended, IsDone}
use Rattle.phase_draws.specs.Reports.{AllOk, AreDone, IsReport, gathered}
use Rattle.phase_draws.proofs.Chunked.{chunk_cells}

-- ---- lists of numbers

abbrev head : List ℕ → ℕ
head [] = 0
head (x ∷ xs) = x

abbrev tail : List ℕ → List ℕ
tail [] = []
tail (x ∷ xs) = xs

abbrev chunk_in : ChunkReport → ℕ
chunk_in r = r.chunk

-- ---- one report

pub report_at : (cell : ℕ → CellValue) (share : Share) (parts : List ChunkPart) (r : ChunkReport) → IsReport cell share parts r
    → (part : ChunkPart) × (slice_get parts r.chunk ≡ Some part) × IsDone share.job share.width (cells_of cell share r.chunk) part r.part r.end
report_at cell share parts r is = by (slice_get parts r.chunk) refl is
  where
    by : (o : Option ChunkPart) → slice_get parts r.chunk ≡ o → MatchOption o ⊥ (λ p. IsDone share.job share.width (cells_of cell share r.chunk) p r.part r.end)
        → (part : ChunkPart) × (slice_get parts r.chunk ≡ Some part) × IsDone share.job share.width (cells_of cell share r.chunk) part r.part r.end
    by None e done = absurd done
    by (Some part) e done = (part, e, done)

ran_ended : (width : ℕ) (cells : List CellValue) (rows : List ℤ) (end : Result Bool Stop) → Ran Store width cells rows end → Ended width cells end
ran_ended width cells rows (Ok held) r = (r.0, r.1, r.3)
ran_ended width cells rows (Err (Faulted fault)) r = r
ran_ended width cells rows (Err Memory) r = tt

pub ended_of : (job : Job) (width : ℕ) (cells : List CellValue) (part after : ChunkPart) (end : Result Bool Stop) → IsDone job width cells part after end → Ended width cells end
ended_of Store width cells None after end d = absurd d
ended_of Store width cells (Some p) None end d = absurd d
ended_of Store width cells (Some p) (Some q) end d = ran_ended width cells q.cells end d.1
ended_of (Fold base op) width cells None None end d = d
ended_of (Fold base op) width cells None (Some q) end d = absurd d
ended_of (Fold base op) width cells (Some p) after end d = absurd d

-- ---- all that stopped none

pub ok_all : (rs : List ChunkReport) → first_stop_of rs ≡ Ok tt → AllOk rs
ok_all [] e = tt
ok_all (r ∷ rs) e = by r.end refl e (λ f. ok_all rs f)
  where
    fine : (held : Bool) → IsOk {T = Bool} {E = Stop} (Ok held)
    fine held = cc

    by : (end : Result Bool Stop) → r.end ≡ end → stop_or end (first_stop_of rs) ≡ Ok tt → (first_stop_of rs ≡ Ok tt → AllOk rs) → AllOk (r ∷ rs)
    by (Ok held) is e rest = (subst (λ (s : Result Bool Stop). IsOk s) (sym is) (fine held), rest e)
    by (Err stop) is e rest = absurd (cc)

-- ---- folds

module _ (cell : ℕ → CellValue) (share : Share) (parts : List ChunkPart) (op : Op) (laws : IsFoldable (combine op)) where
  -- what the cells of chunks came to, where their values are combined
  abbrev pub FoldEnd : List CellValue → List ChunkReport → Result (Unit {0}) Stop → Type 0
  FoldEnd cells rs (Ok done) = (values : List (Option (List ℤ))) × (each cells ≡ Ok values) × HaveWidth share.width values × (gathered op cell share rs ≡ combined (combine op) (present values))
  FoldEnd cells rs (Err (Faulted fault)) = each cells ≡ Err fault
  FoldEnd cells rs (Err Memory) = Unit {0}

  fold_step : (ys : List CellValue) (r : ChunkReport) (rs : List ChunkReport) (c : ℕ) → r.chunk ≡ c → (end : Result Bool Stop) (later : Result (Unit {0}) Stop)
      → Ended share.width (cells_of cell share c) end → FoldEnd ys rs later → FoldEnd (cells_of cell share c ++ ys) (r ∷ rs) (stop_or end later)
  fold_step ys r rs c own (Ok held) (Ok done) a b =
      let xs = cells_of cell share c in
      let one : partial_of op (each (cells_of cell share r.chunk)) ≡ combined (combine op) (present a.0) =
      ap (λ (n : ℕ). partial_of op (each (cells_of cell share n))) own ∙ ap (partial_of op) a.1 in
      (a.0 ++ b.0, each-both xs ys a.0 b.0 a.1 b.1, widths_both share.width a.0 b.0 a.2 b.2, (λ j. both (combine op) (one j) (b.3 j)) ∙ sym (combined-both (combine op) laws a.0 b.0))
  fold_step ys r rs c own (Ok held) (Err (Faulted fault)) a b = each-back (cells_of cell share c) ys a.0 fault a.1 b
  fold_step ys r rs c own (Ok held) (Err Memory) a b = tt
  fold_step ys r rs c own (Err (Faulted fault)) later a b = each-front (cells_of cell share c) ys fault a
  fold_step ys r rs c own (Err Memory) later a b = tt

  pub fold_from : (k c : ℕ) (rs : List ChunkReport) → map chunk_in rs ≡ counting c k → AreDone cell share parts rs → FoldEnd (chunk_cells cell share c k) rs (first_stop_of rs)
  fold_from zero c [] e all = ([], refl, widths_none share.width, refl)
  fold_from zero c (r ∷ rs) e all = absurd (let l = ap length e in omega arith)
  fold_from (suc k) c [] e all = absurd (let l = ap length e in omega arith)
  fold_from (suc k) c (r ∷ rs) e all =
      let own : r.chunk ≡ c = ap head e in
      let one = report_at cell share parts r all.0 in
      let ended = ended_of share.job share.width (cells_of cell share r.chunk) one.0 r.part r.end one.2 in
      fold_step (chunk_cells cell share (c + 1) k) r rs c own r.end (first_stop_of rs) (subst (λ (n : ℕ). Ended share.width (cells_of cell share n) r.end) own ended) (fold_from k (c + 1) rs (ap tail e) all.1)

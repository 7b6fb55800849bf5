-- The value of a fold's whole phase.
use Rattle.std.proofs.Common.{◌≡◌, ℕ, zero, suc, ◌+◌, ◌*◌, ◌<◌, ◌≤◌, Bool, ℤ, List, length, take, None, Some, Result, Ok, Err, IfOk, refl, sym, ap, subst, ◌∙◌, arith}
use Rattle.std.proofs.Math.Nat.{suc-mul}
use Rattle.std.specs.Prelude.{fold, replicate, slice_get}
use Rattle.sac_base.specs.Verdict.{present, fold_op}
use Rattle.sac_base.specs.declared.base.Base.{Base}
use Rattle.sac_base.specs.declared.memory.Memory as memory
use Rattle.sac_base.specs.declared.op.Op.{Op}
use Rattle.sac_base.specs.declared.stop.Stop.{Stop}
use Rattle.sac_base.specs.declared.stop.Stop.TheVariants.{Faulted, Memory}
use Rattle.chunk_reports.specs.Orders.{counting}
use Rattle.chunk_reports.specs.Stops.{first_stop_of}
use Rattle.count_table.specs.Tallied.{PhaseTotals}
use Rattle.wl_core.specs.declared.setup.Job.TheVariants.{Fold}
use Rattle.wl_core.specs.Combining.{IsFoldable}
use Rattle.wl_core.specs.Machine.{CellValue, TakesBase, combine, both}
use Rattle.wl_core.proofs.FoldLaws.{foldable, elementwise-foldable}
use Rattle.phase_team.specs.Endings.{IsCombined}
use Rattle.phase_team.specs.Segments.{cells_from, value_if, Costs, HaveWidth}
use Rattle.phase_team.proofs.Sequences.{from_first}
use Rattle.phase_chunks.specs.declared.shares.Share.{Share}
use Rattle.phase_chunks.specs.declared.ends.TeamEnd.{TeamEnd}
use Rattle.phase_chunks.specs.Chunks.{count_of, ChunkPart, PartFits}
use Rattle.phase_chunks.specs.Answering.{Finishes}
use Rattle.phase_draws.specs.Endings.{one_phase, IsEnded, IsTallied}
use Rattle.phase_draws.specs.Reports.{AllOk, Combine, PartsFit, gathered}
use Rattle.phase_draws.proofs.Chunked.{cells_all}
use Rattle.phase_draws.proofs.Ended.{fold_from, ok_all, FoldEnd}

-- a fold's chunks have no parts
pub parts_none : (share : Share) (base : Base) (op : Op) → share.job ≡ Fold base op → (n : ℕ) → ((k : ℕ) → k < n → k * share.size < share.positions) → PartsFit share (replicate n None)
parts_none share base op is n filled c part at =
    let there = by n c part at in (
      filled c there.0,
      subst (λ j. PartFits j (count_of share c * share.width) part) (sym is)
          (subst (λ p. PartFits (Fold base op) (count_of share c * share.width) p) (sym there.1) tt),
    )
  where
    by : (m j : ℕ) (p : ChunkPart) → slice_get (replicate m None) j ≡ Some p → (j < m) × (p ≡ None)
    by zero j p e = absurd (cc)
    by (suc m) zero p e = (omega arith, cc)
    by (suc m) (suc j) p e = let b = by m j p e in (let l = b.0 in omega arith, b.1)

module _ (cell : ℕ → CellValue) (cost : ℕ → ℕ → ℕ) (share : Share) (parts : List ChunkPart) (base : Base) (op : Op) (is : share.job ≡ Fold base op) (takes : TakesBase (Fold base op)) (n : ℕ) (many : length parts ≡ n)
    (filled : (k : ℕ) → k < n → k * share.size < share.positions) (covers : share.positions ≤ n * share.size) (k k' : ℕ → ℕ) (rows : List ℤ) (end : TeamEnd) (ended : IsEnded cell cost share parts k k' rows end)
    (before after : List ℤ) (width : share.width ≡ length before) (result : Result (Unit {0}) Stop) where
  laws : IsFoldable (combine op)
  laws = elementwise-foldable (fold_op op) (foldable base op takes)

  all : FoldEnd cell share parts op laws (cells_from cell 0 share.positions) end.reports.items (first_stop_of end.reports.items)
  all =
      let order = ended.order ∙ ap (counting 0) many in
      subst (λ (l : List CellValue). FoldEnd cell share parts op laws l end.reports.items (first_stop_of end.reports.items)) (sym (cells_all share cell n filled covers))
      (fold_from cell share parts op laws n 0 end.reports.items order ended.done)

  told : (held : Bool) → end.held ≡ Ok held → first_stop_of end.reports.items ≡ Ok tt → Costs cost 0 share.positions k k' × (value_if held (take (length before) rows) ≡ gathered op cell share end.reports.items)
  told held e none =
      let t = subst (λ (r : Result Bool memory.Memory). IfOk r (λ h. AllOk end.reports.items → Costs cost 0 share.positions k k' × Combine share.job cell share end.reports.items h rows)) e ended.told in
      let u = t (ok_all end.reports.items none) in
      (u.0, ap (λ (w : ℕ). value_if held (take w rows)) (sym width) ∙ subst (λ j. Combine j cell share end.reports.items held rows) is u.1)

  answer : (first : Result (Unit {0}) Stop) → first_stop_of end.reports.items ≡ first → (held : Result Bool memory.Memory) → end.held ≡ held
      → FoldEnd cell share parts op laws (cells_from cell 0 share.positions) end.reports.items first → Finishes op first held rows before after result
      → IsCombined op (cells_from cell 0 share.positions) before after result × IfOk result (λ done. Costs cost 0 share.positions k k')
  answer (Err (Faulted fault)) e held h a fin = let r = sym fin in (subst (λ s. IsCombined op (cells_from cell 0 share.positions) before after s) r a, subst (λ (s : Result (Unit {0}) Stop). IfOk s (λ done. Costs cost 0 share.positions k k')) r tt)
  answer (Err Memory) e held h a fin = let r = sym fin in (subst (λ s. IsCombined op (cells_from cell 0 share.positions) before after s) r tt, subst (λ (s : Result (Unit {0}) Stop). IfOk s (λ done. Costs cost 0 share.positions k k')) r tt)
  answer (Ok done) e (Err m) h a fin = let r = sym fin in (subst (λ s. IsCombined op (cells_from cell 0 share.positions) before after s) r tt, subst (λ (s : Result (Unit {0}) Stop). IfOk s (λ done. Costs cost 0 share.positions k k')) r tt)
  answer (Ok done) e (Ok held) h a fin =
      let t = told held h e in
      let whole : Some after ≡ Some (fold (combine op) before (present a.0)) =
      fin.1 ∙ (λ j. both (combine op) (Some before) (t.1 j)) ∙ (λ j. both (combine op) (Some before) (a.3 j)) ∙ sym (from_first (combine op) laws before (present a.0)) in
      let value : after ≡ fold (combine op) before (present a.0) = cc in
      let r = sym fin.0 in (
        subst (λ s. IsCombined op (cells_from cell 0 share.positions) before after s) r (a.0, a.1, value, subst (λ (w : ℕ). HaveWidth w a.0) width a.2),
        subst (λ (s : Result (Unit {0}) Stop). IfOk s (λ done. Costs cost 0 share.positions k k')) r t.0,
      )

  pub fold_answer : Finishes op (first_stop_of end.reports.items) end.held rows before after result
      → IsCombined op (cells_from cell 0 share.positions) before after result × IfOk result (λ done. Costs cost 0 share.positions k k')
  fold_answer fin = answer (first_stop_of end.reports.items) refl end.held refl all fin

-- a phase is tallied, whatever it answers
pub tallied : (n : ℕ) (before after : PhaseTotals) (r : Result (Unit {0}) Stop) → after ≡ one_phase n before → IsTallied n before after r
tallied n before after (Ok done) e = e
tallied n before after (Err (Faulted fault)) e = e
tallied n before after (Err Memory) e = tt

-- where there is a worker, there is a row
pub row_there : (workers others w len : ℕ) → others + 1 ≡ workers → len ≡ workers * (w + (w + w)) → w ≤ len
row_there workers others w len some is =
    let e : workers * (w + (w + w)) ≡ suc others * (w + (w + w)) = ap (λ (n : ℕ). n * (w + (w + w))) (let k : workers ≡ suc others = omega arith in k) in
    let f : suc others * (w + (w + w)) ≡ others * (w + (w + w)) + (w + (w + w)) = suc-mul others (w + (w + w)) in
    omega arith

-- The verdict of a finished state in memory.
use Rattle.std.proofs.Common.{◌≡◌, ℕ, ◌<◌, List, length, ℤ, Option, Some, sym, ap, ◌∙◌, subst}
use Rattle.sac_base.specs.declared.base.Base.{Base}
use Rattle.sac_base.specs.declared.op.Op.{Op}
use Rattle.sac_base.specs.Verdict.{present, joined, combined}
use Rattle.wl_core.specs.declared.setup.Setup.{Setup}
use Rattle.wl_core.specs.declared.setup.Job.{Job}
use Rattle.wl_core.specs.declared.setup.Job.TheVariants.{Write as Store, Fold}
use Rattle.wl_core.specs.declared.state.State.{State}
use Rattle.wl_core.specs.Machine.{Cells, Partial, Finished, combine, listed, sequential}
use Rattle.wl_core.specs.Facts.{NoneStopped, made_by}
use Rattle.wl_core.specs.Rows.{row_of, partial_of}
use Rattle.wl_core.specs.Reading.{setup_of, state_of, stored_rows, row_if, RowsFor, IsReached}
use Rattle.wl_core.proofs.Combining.{present-all}
use Rattle.wl_core.proofs.States.{facts}
use Rattle.wl_core.proofs.Verdicts.{settled, written_once}

module _ (u : Setup) (b : State) where
  -- a phase that stores its cells
  pub stored_is : (cells : List ℤ) → IsReached u b → Finished (setup_of u) (state_of (setup_of u) b) → NoneStopped (state_of (setup_of u) b) → u.job ≡ Store → cells ≡ joined (listed (row_of b.stored) b.stored.count) → Cells cells ≡ sequential (setup_of u)
  stored_is cells r fin none job is =
      let v = setup_of u in
      let s = state_of v b in
      let h = facts u b r in
      let n : ℕ = length v.cells in
      let count : b.stored.count ≡ n = subst (λ (j : Job). RowsFor j n u.workers b.stored.count b.partials.rows.count) job r.sized.rows in
      let row : (p : ℕ) → p < n → stored_rows Store s.written (row_of b.stored) p ≡ Some (row_of b.stored p) = (λ p lt. let o = written_once v s r.setup h fin none p lt in ap (λ (l : List ℕ). row_if l (row_of b.stored p)) o.1) in
      let all : present (listed (stored_rows Store s.written (row_of b.stored)) n) ≡ listed (row_of b.stored) n = present-all (stored_rows Store s.written (row_of b.stored)) (row_of b.stored) n row in
      let made : sequential v ≡ made_by u.job n u.workers s = (settled v s r.setup h fin).made none in
      sym (made ∙ (λ j. made_by (job j) n u.workers (record s { stored = stored_rows (job j) s.written (row_of b.stored) })) ∙ ap (λ (l : List (List ℤ)). Cells (joined l)) all ∙ ap (λ (k : ℕ). Cells (joined (listed (row_of b.stored) k))) (sym count) ∙ ap Cells (sym is))

  -- a phase that combines them
  pub combined_is : (base : Base) (op : Op) (value : Option (List ℤ)) → IsReached u b → Finished (setup_of u) (state_of (setup_of u) b) → NoneStopped (state_of (setup_of u) b) → u.job ≡ Fold base op
      → value ≡ combined (combine op) (present (listed (partial_of b.partials) b.partials.rows.count)) → Partial value ≡ sequential (setup_of u)
  combined_is base op value r fin none job is =
      let v = setup_of u in
      let s = state_of v b in
      let n : ℕ = length v.cells in
      let count : b.partials.rows.count ≡ u.workers = subst (λ (j : Job). RowsFor j n u.workers b.stored.count b.partials.rows.count) job r.sized.rows in
      let made : sequential v ≡ made_by u.job n u.workers s = (settled v s r.setup (facts u b r) fin).made none in
      sym (made ∙ ap (λ (j : Job). made_by j n u.workers s) job ∙ ap (λ (k : ℕ). Partial (combined (combine op) (present (listed (partial_of b.partials) k)))) (sym count) ∙ ap Partial (sym is))

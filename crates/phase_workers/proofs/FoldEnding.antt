-- What a fold of workers tells of the machine.
use Rattle.std.proofs.Common.{◌≡◌, ℕ, Bool, true, false, List, length, ℤ, Option, Some, None, Result, Ok, Err, refl, ap, ◌∙◌, sym, subst}
use Rattle.std.specs.Prelude.{IsTrue, ◌&&◌, fold}
use Rattle.std.proofs.lemmas.Slice.Eq.{bytes_eq-Decides}
use Rattle.array_with_loops.specs.declared.plans.Plan.{Plan}
use Rattle.buffer_heap.specs.declared.heap.BufferId.{BufferId}
use Rattle.buffer_heap.specs.Heaps.{HeapValue}
use Rattle.core_ir.specs.declared.tree.Var.{Var}
use Rattle.core_ir.specs.Meaning.{cells, generators}
use Rattle.counted_code.specs.Counts.{IsWellCounted}
use Rattle.counted_code.specs.Loops.{Job, job_does, settled}
use Rattle.counted_code.specs.Machine.{Values}
use Rattle.counted_code.specs.Terms.{core_of_gens, core_of_parts}
use Rattle.counted_code.specs.Values.{Heap}
use Rattle.counted_code.specs.View.{code_program}
use Rattle.phase_books.specs.Alive.{AreAlive}
use Rattle.phase_books.specs.Homes.{CombinesAll, handed}
use Rattle.counted_code.specs.Pieces.{gens_term, parts_term}
use Rattle.phase_laws.specs.Folds.{IsOf}
use Rattle.phase_loop_cells.specs.Cells.{as_cell, fill_at, index_at, source_means}
use Rattle.phase_loop_cells.specs.Opened.{SourceIn, lent_env, meaning_in}
use Rattle.phase_loop_laws.specs.Ordered.{begun}
use Rattle.phase_loop_laws.specs.Worked as worked
use Rattle.phase_loop_laws.specs.Worked.{HaveForm, PhaseEnds}
use Rattle.phase_loop_laws.proofs.FoldResults.{fold_made}
use Rattle.phase_loop_laws.proofs.Forms.{part_forms, with_forms}
use Rattle.phase_team.specs.Endings.{IsCombined}
use Rattle.phase_team.specs.Segments.{cells_from}
use Rattle.phase_workers.proofs.Ending.{cell, cells_with, loop_ends, phase_faulted, phase_finished, same_cell, spent}
use Rattle.phase_workers.proofs.Openings.{AreReferred}
use Rattle.run_loops.specs.declared.cell_loop.CellLoop.{CellLoop}
use Rattle.run_loops.specs.declared.cell_loop.CellSource.{CellSource}
use Rattle.run_loops.specs.declared.cell_loop.CellSource.TheVariants.{Generators, Parts}
use Rattle.run_loops.specs.declared.state.Context.{Context}
use Rattle.run_loops.specs.declared.state.State.{State}
use Rattle.run_loops.specs.Jobs.{cells_job}
use Rattle.run_loops.specs.Loops.{IsBegun}
use Rattle.run_loops.specs.Running.{IsAt, IsValue, Told, ToldStop}
use Rattle.run_store.specs.Stands.{StandsFor}
use Rattle.run_store.specs.Targets.{target_at}
use Rattle.run_values.specs.declared.value.RunValue.{RunValue}
use Rattle.sac_base.specs.declared.base.Base.{Base}
use Rattle.sac_base.specs.declared.base.Base.TheVariants.{Int, Bool as Truth}
use Rattle.sac_base.specs.declared.faults.Fault.{Fault}
use Rattle.sac_base.specs.declared.form.Form.{Form}
use Rattle.sac_base.specs.declared.op.Op.{Op}
use Rattle.sac_base.specs.declared.stop.Stop.{Stop}
use Rattle.sac_base.specs.declared.stop.Stop.TheVariants.{Faulted}
use Rattle.sac_base.specs.Arrays.{ArrayValue, IsFull, same_base, same_shape, size}
use Rattle.sac_base.specs.Outcomes.{Ends}
use Rattle.sac_base.specs.Verdict.{folds}
use Rattle.sac_base.specs.WithLoops.{Range, combined, fits_form}
use Rattle.wl_core.specs.Machine.{CellValue}

-- ---- the neutral value

both_true : (s t : Bool) → (s && t) ≡ true → (s ≡ true) × (t ≡ true)
both_true true t both = (refl, both)
both_true false t both = absurd (cc)

one_base : (b c : Base) → same_base b c ≡ true → b ≡ c
one_base Int Int e = refl
one_base Truth Truth e = refl
one_base Int Truth e = absurd (cc)
one_base Truth Int e = absurd (cc)

-- a full array that fits a form is a whole one of its base and shape
pub whole_of : (form : Form) (a : ArrayValue) → IsTrue (fits_form form a) → IsFull a → IsOf form.base form.shape a
whole_of form a fits full =
    let both = both_true (same_base a.base form.base) (same_shape a.shape form.shape) fits in
    record { base_is = one_base a.base form.base both.0; shape_is = (bytes_eq-Decides a.shape form.shape).0 both.1; full = full }

-- it has as many elements as a cell
pub wide_as : (form : Form) (a : ArrayValue) → IsTrue (fits_form form a) → IsFull a → length a.cells ≡ size form.shape
wide_as form a fits full =
    let is = whole_of form a fits full in
    is.full ∙ ap size is.shape_is

pub combined_as : (op : Op) (cells : List CellValue) (h : HeapValue) (n : ℕ) (neutral neutral2 es : List ℤ) (r t : Result HeapValue Stop) → r ≡ t → neutral ≡ neutral2 → CombinesAll op cells h n neutral es r → CombinesAll op cells h n neutral2 es t
combined_as op cells h n neutral neutral2 es r t same start combined = subst (λ zs. CombinesAll op cells h n zs es t) start (subst (CombinesAll op cells h n neutral es) same combined)

-- ---- loops

-- the cells that are there have the form
have_form : (context : Context) (h : HeapValue) (e : Values) (source : CellSource) (form : Form) (ranges : List Range) → HaveForm form.base form.shape (source_means context h e source form ranges)
have_form context h e (Generators gens) form ranges = with_forms form (generators (meaning_in context) context.turns (core_of_gens (gens_term gens.now)) (lent_env h e)) ranges
have_form context h e (Parts parts) form ranges = part_forms form.base form.shape (cells (meaning_in context) context.turns (core_of_parts (parts_term parts.now)) (lent_env h e))

module _ (context : Context) (e : Values) (work : CellLoop) (xs : List Var) (counted : IsWellCounted (code_program context.code.now)) (here : SourceIn (code_program context.code.now) work.source xs) (h : HeapValue) (alive : AreAlive h e xs) (referred : AreReferred h) (m : Heap) where
  abbrev p : Plan
  p = work.plan.now

  abbrev held : List ℤ → Ends (Option ArrayValue)
  held = cell context e work xs counted here h alive referred m

  abbrev computed : List CellValue
  computed = cells_with context e work xs counted here h alive referred m None

  abbrev takes_all : ℕ
  takes_all = spent context e work xs counted here h alive referred m

  module _ (op : Op) (neutral : ArrayValue) (allowed : IsTrue (folds p.form.base op)) (fits : IsTrue (fits_form p.form neutral)) (full : IsFull neutral) where
    abbrev job : Job
    job = cells_job context e m work true (fold (combined op) neutral)

    fold_ends : StandsFor h (begun job m).heap → (es : List ℤ) (end : Result (Unit {0}) Stop) → IsCombined op computed neutral.cells es end → PhaseEnds job p.form.base p.form.shape takes_all m es end
    fold_ends stands es end is =
        loop_ends context e work xs counted here h alive referred m true (fold (combined op) neutral) refl stands p.form.base p.form.shape es end
        (fold_made p.form.base op allowed p.form.shape neutral (whole_of p.form neutral fits full) held (have_form context h e work.source p.form p.ranges.items) p.frame es end
        (subst (λ (f : ℕ → CellValue). IsCombined op (cells_from f 0 (length p.frame)) neutral.cells es end) (λ i place. same_cell None (held (index_at p.frame place)) i) is))

    module _ (t : Option BufferId) (s : State) (is : IsBegun (target_at t) s (begun job m)) (stands : StandsFor h (begun job m).heap) where
      -- the finished result
      pub fold_finished : (es : List ℤ) (home : HeapValue) → CombinesAll op computed h takes_all neutral.cells es (Ok home)
          → (s2 s3 : State) (r : Result RunValue Stop) → s2.heap ≡ record { own = handed h home; lent = None } → s2.phases ≡ s.phases
          → ((k : Heap) → IsAt s2 k → Told IsValue r s3 (settled (target_at t) (record { base = p.form.base; shape = p.form.shape; cells = es }) k)) → Told IsValue r s3 (job_does None job m)
      fold_finished es home combines =
          phase_finished job m p.form.base p.form.shape takes_all t s is h home referred stands es (fold_ends stands es (Ok tt) combines.0) combines.1

      -- the fault of the least position
      pub fold_faulted : (es : List ℤ) (f : Fault) → CombinesAll op computed h takes_all neutral.cells es (Err (Faulted f)) → ToldStop (Faulted f) s (job_does None job m)
      fold_faulted es f faulted =
          phase_faulted job m p.form.base p.form.shape takes_all t s is es f (fold_ends stands es (Err (Faulted f)) faulted)

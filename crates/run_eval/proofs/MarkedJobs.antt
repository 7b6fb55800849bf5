-- Loops with a mark, from what is told of their parts.
use Rattle.std.proofs.Common.{◌≡◌, ℕ, List, map, Bool, true, false, true≢false, refl, sym, ap, ◌∙◌, subst, Result, Ok, Some, None}
use Rattle.std.specs.Prelude.{◌++◌, ◌&&◌, not, length}
use Rattle.sac_base.specs.declared.base.Base.{Base}
use Rattle.sac_base.specs.declared.grid.Grid1.{Grid1}
use Rattle.sac_base.specs.declared.op.Op.{Op}
use Rattle.sac_base.specs.declared.site.Site.{Site}
use Rattle.sac_base.specs.Grids.{members}
use Rattle.sac_base.specs.WithLoops.{Plan}
use Rattle.core_ir.specs.declared.tree.PartedOp.{PartedOp}
use Rattle.core_ir.specs.declared.tree.PartedOp.TheVariants as parted
use Rattle.core_ir.specs.declared.tree.Var.{Var}
use Rattle.core_ir.specs.Meaning.{extents, joined}
use Rattle.counted_code.specs.declared.tree.CodePart.{CodePart}
use Rattle.counted_code.specs.Loops.{Job, Old, cells_do, job_does, loop_does, parted_job, write_cell}
use Rattle.counted_code.specs.Machine.{Values, one_value, reads}
use Rattle.counted_code.specs.Values.{Heap, Value, Small, Ref, Ended, Done, go_on, is_small, pure_end, release}
use Rattle.array_with_loops.specs.Plans.{plan_of}
use Rattle.phase_loop_laws.proofs.mark_laws.Jobs.{IsSpared, job_over, job_rest, reusing}
use Rattle.phase_count.proofs.Tallying.{counts_as}
use Rattle.run_over.specs.Soles.{is_only}
use Rattle.run_store.specs.Stands.{Stands}
use Rattle.run_values.specs.declared.frames.Frames.{Frames}
use Rattle.run_values.specs.declared.value.RunValue.{RunValue}
use Rattle.run_values.specs.Scopes.{current}
use Rattle.run_values.specs.Shown.{value_of}
use Rattle.sac_base.specs.declared.stop.Stop.{Stop}
use Rattle.run_loops.specs.declared.cell_loop.CellLoop.{CellLoop}
use Rattle.run_loops.specs.declared.cell_loop.LoopResult.TheVariants.{Joined}
use Rattle.run_loops.specs.declared.state.Context.{Context}
use Rattle.run_loops.specs.declared.state.State.{State}
use Rattle.run_loops.specs.Jobs.{cells_job, folds_of, job_of, result_of, AreIndicesOf}
use Rattle.run_loops.specs.Loops.{cells_written, loop_source, plan_of_parts}
use Rattle.run_loops.specs.Running.{IsAt, IsOnly, IsValue, Told, ToldStop, cells_in, parts_job}
use Rattle.run_loops.proofs.CellBodies.{loop_source_is}
use Rattle.run_eval.proofs.CellTold.{followed, only_told, release_phases}
use Rattle.run_loops.proofs.Steps.{stop_then}
use Rattle.run_eval.proofs.WrittenRuns.{Written}

-- ---- an array that is not taken over

pub is_spared : (h : Heap) (w : Value) (small : Bool) → (not small && is_only h w) ≡ false → IsSpared small h w
is_spared h w true over = tt
is_spared h (Small a) false over = tt
is_spared h (Ref b base shape) false over = over

-- the loop is run as without the mark
module _ (j : Job) (w : Value) (m : Heap) (spared : IsSpared (is_small j.shape) m w) where
  pub spared_stops : (stop : Stop) (s : State) → ToldStop stop s (job_does None j m) → ToldStop stop s (job_does (Some w) j m)
  spared_stops stop s told = subst (ToldStop stop s) (sym (job_rest j w m spared)) (stop_then stop s (job_does None j m) (λ v after. Done v (release w after)) told)

  -- and the mark's reference ends
  pub spared_tells : (v : RunValue) (s t : State) → ((h : Heap) → Stands s.heap h → Stands t.heap (release w h)) → t.phases ≡ s.phases
      → Told IsValue (Ok v) s (job_does None j m) → Told IsValue (Ok v) t (job_does (Some w) j m)
  spared_tells v s t released phases told =
      subst (Told IsValue (Ok v) t) (sym (job_rest j w m spared))
      (followed IsValue IsValue v s (job_does None j m) (λ v after. Done v (release w after)) (Ok v) t
      (λ u h is at. (is, record { heap = released h at.heap; phases = counts_as s.phases t.phases h.phases (release w h).phases phases (sym (release_phases w h)) at.phases })) told)

-- ---- an array that is taken over

pub not_small : (small only : Bool) → (not small && only) ≡ true → small ≡ false
not_small true only over = absurd (true≢false (sym over))
not_small false only over = refl

pub only_one : (small only : Bool) → (not small && only) ≡ true → only ≡ true
only_one true only over = absurd (true≢false (sym over))
only_one false only over = over

module _ (context : Context) (w : CellLoop) (s s0 : State) (m : Heap) (frames : s0.frames ≡ s.frames) (small : is_small w.plan.now.shape ≡ false)
    (v : Value) (b : ℕ) (base : Base) (shape : List ℕ) (value : v ≡ Ref b base shape) (only : is_only m v ≡ true) where
  abbrev job : Job
  job = cells_job context (current s.frames) m w false (joined w.plan.now.form.base w.plan.now.shape)

  abbrev begun : Heap
  begun = reusing true (length w.plan.now.frame) m

  over_is : job_does (Some v) job m ≡ go_on (cells_written b context (current s0.frames) w begun) (λ found after. Done (Ref b w.plan.now.form.base w.plan.now.shape) after)
  over_is =
      ap (λ v. job_does (Some v) job m) value
      ∙ job_over job b base shape m small (subst (λ v. is_only m v ≡ true) value only)
      ∙ (λ i. go_on (cells_do job.form (sources_are i) (write_cell (Old b)) 0 job.indices begun) (λ found after. Done (Ref b w.plan.now.form.base w.plan.now.shape) after))
    where
      sources_are : job.source ≡ loop_source context (current s0.frames) w
      sources_are = sym (λ i v. (ap (λ (f : Frames). loop_source context (current f) w v) frames ∙ loop_source_is context (current s.frames) m w v) i)

  pub over_stops : (stop : Stop) (s1 : State) → IsAt s0 begun → ((h : Heap) → IsAt s0 h → ToldStop stop s1 (cells_written b context (current s0.frames) w h)) → ToldStop stop s1 (job_does (Some v) job m)
  over_stops stop s1 at told =
      subst (ToldStop stop s1) (sym over_is)
      (stop_then stop s1 (cells_written b context (current s0.frames) w begun) (λ found after. Done (Ref b w.plan.now.form.base w.plan.now.shape) after) (told begun at))

  pub over_tells : (u : Unit {0}) (r : RunValue) (s1 : State) → IsAt s0 begun → value_of r ≡ Ref b w.plan.now.form.base w.plan.now.shape
      → ((h : Heap) → IsAt s0 h → Told Written (Ok u) s1 (cells_written b context (current s0.frames) w h)) → Told IsValue (Ok r) s1 (job_does (Some v) job m)
  over_tells u r s1 at is told =
      subst (Told IsValue (Ok r) s1) (sym over_is)
      (followed Written IsValue u s1 (cells_written b context (current s0.frames) w begun) (λ found after. Done (Ref b w.plan.now.form.base w.plan.now.shape) after) (Ok r) s1
      (λ found h agrees at. (is, at)) (told begun at))

-- the result of a loop that is joined
pub joined_as : (context : Context) (e : Values) (m : Heap) (w : CellLoop) (r : Result RunValue Stop) (t : State) (v : Value) → w.result ≡ Joined
    → Told IsValue r t (job_does (Some v) (cells_job context e m w false (joined w.plan.now.form.base w.plan.now.shape)) m)
    → Told IsValue r t (job_does (Some v) (job_of context e m w) m)
joined_as context e m w r t v is told =
    subst (λ made. Told IsValue r t (job_does (Some v) (cells_job context e m w (folds_of made) (result_of m made (plan_of w.plan.now))) m)) (sym is) told

-- ---- parted loops with a mark, by what their check has planned

module _ (context : Context) (e : Values) (m : Heap) (frame : List Grid1) (base : Base) (cell : List ℕ) (ps : List CodePart) (s : Site) (mark : Value) where
  abbrev whole : PartedOp → Ended (List Value)
  whole op = one_value (loop_does (λ k. parted_job frame base cell op (map (cells_in context e) ps) s (reads k e)) (Some mark)) m

  abbrev job_of_parts : Job
  job_of_parts = parts_job context e ps (members frame) (record { base = base; shape = cell }) (extents frame ++ cell)

  told_as : (op : PartedOp) (j : Job) (r : Result RunValue Stop) (t : State) → parted_job frame base cell op (map (cells_in context e) ps) s (reads m e) ≡ Ok job_of_parts → j ≡ job_of_parts
      → Told IsValue r t (job_does (Some mark) j m) → Told IsOnly r t (whole op)
  told_as op j r t is same told =
      only_told r t (loop_does (λ k. parted_job frame base cell op (map (cells_in context e) ps) s (reads k e)) (Some mark) m)
      (subst (Told IsValue r t) ((λ i. job_does (Some mark) (same i) m) ∙ sym (ap (λ c. go_on (pure_end c m) (job_does (Some mark))) is)) told)

  pub marked_parts_tell : (op : PartedOp) (plan : Plan) (qs : List CodePart) (r : Result RunValue Stop) (t : State)
      → ((o : Op) (x : Var) → op ≡ parted.Fold o x → ⊥) → plan ≡ plan_of_parts frame base cell op → qs ≡ ps
      → Told IsValue r t (job_does (Some mark) (parts_job context e qs plan.indices plan.form plan.shape) m) → Told IsOnly r t (whole op)
  marked_parts_tell parted.Genarray plan qs r t not is same told =
      told_as parted.Genarray (parts_job context e qs plan.indices plan.form plan.shape) r t refl
      (λ i. parts_job context e (same i) (is i).indices (is i).form (is i).shape) told
  marked_parts_tell (parted.Modarray x) plan qs r t not is same told =
      told_as (parted.Modarray x) (parts_job context e qs plan.indices plan.form plan.shape) r t refl
      (λ i. parts_job context e (same i) (is i).indices (is i).form (is i).shape) told
  marked_parts_tell (parted.Fold o x) plan qs r t not is same told = absurd (not o x refl)

-- ---- frames whose cells are the elements of the result

module _ (frame : List Grid1) (base : Base) (cell : List ℕ) where
  pub rows_of_parts : (op : PartedOp) (plan : Plan) → ((o : Op) (x : Var) → op ≡ parted.Fold o x → ⊥) → plan ≡ plan_of_parts frame base cell op
      → AreIndicesOf (extents frame ++ cell) (members frame) → AreIndicesOf plan.shape plan.indices
  rows_of_parts parted.Genarray plan not is rows = subst (λ (p : Plan). AreIndicesOf p.shape p.indices) (sym is) rows
  rows_of_parts (parted.Modarray x) plan not is rows = subst (λ (p : Plan). AreIndicesOf p.shape p.indices) (sym is) rows
  rows_of_parts (parted.Fold o x) plan not is rows = absurd (not o x refl)

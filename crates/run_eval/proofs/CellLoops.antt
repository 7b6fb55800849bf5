-- The loops over cells, and the jobs that they do.
use Rattle.std.proofs.Common.{◌≡◌, ℕ, ◌+◌, ◌<◌, ◌≤◌, List, [], ◌∷◌, length, get_or, Bool, false, refl, sym, ap, ◌∙◌, subst, Result, Ok, Option, Some, None}
use Rattle.std.specs.Prelude.{ℤ, option_map}
use Rattle.sac_base.specs.declared.base.Base.{Base}
use Rattle.sac_base.specs.declared.form.Form.{Form}
use Rattle.sac_base.specs.Arrays.{ArrayValue, size}
use Rattle.counted_code.specs.Loops as machine
use Rattle.counted_code.specs.Loops.{Job, Source, job_does, release_rest, settled}
use Rattle.counted_code.specs.Machine.{Values}
use Rattle.counted_code.specs.Values.{Heap, read}
use Rattle.array_with_loops.specs.Cells.{cells_from}
use Rattle.array_with_loops.specs.Plans.{plan_of}
use Rattle.sac_base.specs.declared.stop.Stop.{Stop}
use Rattle.run_store.specs.Stands.{Stands}
use Rattle.run_values.specs.declared.value.RunValue.{RunValue}
use Rattle.run_values.specs.declared.frames.Frames.{Frames}
use Rattle.run_values.specs.Scopes.{current}
use Rattle.run_values.specs.Shown.{value_of}
use Rattle.run_loops.specs.declared.cell_loop.CellLoop.{CellLoop}
use Rattle.run_loops.specs.declared.cell_loop.LoopResult.{LoopResult}
use Rattle.run_loops.specs.declared.cell_loop.LoopResult.TheVariants.{Filled}
use Rattle.run_loops.specs.declared.cells.Background.{Background}
use Rattle.run_loops.specs.declared.state.Context.{Context}
use Rattle.run_loops.specs.declared.state.State.{State}
use Rattle.run_loops.specs.Jobs.{array_over, cells_job, folds_of, job_of, result_of}
use Rattle.run_loops.specs.Running.{IsAt, IsValue, SameScopes, Told, ToldStop}
use Rattle.run_loops.specs.Loops.{IsBegun, IsPresent, cells_run, loop_cells, loop_source, unreleased}
use Rattle.run_loops.proofs.CellBodies.{loop_source_is}
use Rattle.run_eval.proofs.CellJobs.{WritesNothing, claim_of, job_ends, job_stops}
use Rattle.run_eval.proofs.CellRuns.{Carries, Cells, Makes, Making, carried_end, carried_step, carried_stop}
use Rattle.run_eval.proofs.CellTold.{agreed}

-- ---- loops, whose cells depend on the values in the scope

module _ {X Y : Type 0} (make : Making X Y) (form : Form) (source : Values → List ℤ → Option Source) (indices : List (List ℤ)) (x0 : X) (s0 : State) where
  abbrev pub Carried : State → X → ℕ → Type 0
  Carried s x k = (m : Heap) → IsAt s0 m → Carries make form (source (current s0.frames)) indices x0 m s x k

  module _ (s : State) (x : X) (k : ℕ) (carried : Carried s x k) (same : SameScopes s0.frames s.frames) where
    pub loop_step : (v : List ℤ) (o : Option RunValue) (s1 s2 : State) (x' : X) → k < length indices → v ≡ get_or indices k []
        → ((m : Heap) → IsAt s m → Told IsPresent (Ok o) s1 (unreleased form (source (current s.frames) v) m))
        → ((h : Heap) → Stands s1.heap h → ((rest : Cells) → make x k (option_map (read h) (option_map value_of o) ∷ rest) ≡ make x' (k + 1) rest) × Stands s2.heap (release_rest (option_map value_of o) h))
        → s2.phases ≡ s1.phases → Carried s2 x' (k + 1)
    loop_step v o s1 s2 x' inside is told put phases = λ m at.
        let c = carried m at in
        carried_step make form (source (current s0.frames)) indices x0 m s x k c [] v o s1 s2 x' inside is
        (subst (λ e. Told IsPresent (Ok o) s1 (unreleased form (source e v) c.heap)) same.0 (told c.heap c.stands)) put phases

    pub loop_stop : (v : List ℤ) (stop : Stop) (s1 : State) → k < length indices → v ≡ get_or indices k []
        → ((m : Heap) → IsAt s m → ToldStop stop s1 (unreleased form (source (current s.frames) v) m))
        → (m : Heap) → IsAt s0 m → ToldStop stop s1 (cells_run form (source (current s0.frames)) indices m)
    loop_stop v stop s1 inside is told = λ m at.
        let c = carried m at in
        carried_stop make form (source (current s0.frames)) indices x0 m s x k c [] v stop s1 inside is
        (subst (λ e. ToldStop stop s1 (unreleased form (source e v) c.heap)) same.0 (told c.heap c.stands))

    pub loop_end : {A : Type 0} (a : A) (R : A → Cells → Type 0) → ((found : Cells) → make x k [] ≡ make x0 0 found → R a found) → length indices ≤ k
        → (m : Heap) → IsAt s0 m → Told R (Ok a) s (cells_run form (source (current s0.frames)) indices m)
    loop_end a R next past = λ m at.
        agreed (Makes make x0 0 (make x k [])) R tt a s (cells_run form (source (current s0.frames)) indices m) next
        (carried_end make form (source (current s0.frames)) indices x0 m s x k (carried m at) past)

-- ---- jobs

module _ (context : Context) (w : CellLoop) (s s0 : State) (t : machine.Target) (m : Heap) (frames : s0.frames ≡ s.frames) (nothing : WritesNothing t)
    (folds : Bool) (result : Cells → ArrayValue) (begun : IsBegun t s0 (claim_of (cells_job context (current s.frames) m w folds result) m)) where
  abbrev job : Job
  job = cells_job context (current s.frames) m w folds result

  abbrev claimed : Heap
  claimed = (claim_of job m).heap

  sources_are : loop_source context (current s0.frames) w ≡ job.source
  sources_are = λ i v. (ap (λ (f : Frames). loop_source context (current f) w v) frames ∙ loop_source_is context (current s.frames) m w v) i

  pub loop_stops : (stop : Stop) (s1 : State) → ((h : Heap) → IsAt s0 h → ToldStop stop s1 (loop_cells context (current s0.frames) w h))
      → ToldStop stop s1 (job_does None job m)
  loop_stops stop s1 told =
      job_stops job m t s0 begun nothing stop s1 (subst (λ f. ToldStop stop s1 (cells_run job.form f job.indices claimed)) sources_are (told claimed begun.stands))

  pub loop_tells : {A : Type 0} (R : A → Cells → Type 0) (a : A) (made : ArrayValue) (r : Result RunValue Stop) (s1 s2 : State)
      → ((found : Cells) → R a found → made ≡ result found)
      → ((h : Heap) → IsAt s0 h → Told R (Ok a) s1 (loop_cells context (current s0.frames) w h))
      → ((h : Heap) → IsAt s1 h → Told IsValue r s2 (settled t made h))
      → Told IsValue r s2 (job_does None job m)
  loop_tells R a made r s1 s2 is told finished =
      job_ends job m t s0 begun nothing R a made r s1 s2 is
      (subst (λ f. Told R (Ok a) s1 (cells_run job.form f job.indices claimed)) sources_are (told claimed begun.stands)) finished

-- ---- results

module _ (context : Context) (e : Values) (m : Heap) (w : CellLoop) (r : Result RunValue Stop) (t : State) where
  -- the result of a loop that is no other than this
  pub made_as : (made : LoopResult) (folds : Bool) (result : Cells → ArrayValue) → w.result ≡ made → folds_of made ≡ folds
      → ((found : Cells) → result_of m made (plan_of w.plan.now) found ≡ result found)
      → Told IsValue r t (job_does None (cells_job context e m w folds result) m) → Told IsValue r t (job_does None (job_of context e m w) m)
  made_as made folds result is same results told =
      subst (λ made. Told IsValue r t (job_does None (cells_job context e m w (folds_of made) (result_of m made (plan_of w.plan.now))) m)) (sym is)
      (subst (Told IsValue r t) (λ i. job_does None (cells_job context e m w (sym same i) (λ found. sym (results found) i)) m) told)

  pub filled_as : (b : Background) (v : RunValue) (base : Base) → w.result ≡ Filled v b.old → b.array.now ≡ read m (value_of v) → base ≡ b.array.now.base → b.size ≡ size w.plan.now.form.shape
      → Told IsValue r t (job_does None (cells_job context e m w false (array_over base w.plan.now.shape (Some b))) m)
      → Told IsValue r t (job_does None (job_of context e m w) m)
  filled_as b v base is copied based sized told =
      let bases : base ≡ (read m (value_of v)).base = based ∙ ap (λ (a : ArrayValue). a.base) copied in
      made_as (Filled v b.old) false (array_over base w.plan.now.shape (Some b)) is refl
      (λ found i. record { base = sym bases i; shape = w.plan.now.shape; cells = cells_from b.old (sym copied i) (sym sized i) 0 found }) told

-- A loop whose checks have passed, from its claim, its cells and its finished result.
use Rattle.std.proofs.Common.{◌≡◌, ℕ, refl, sym, ap, ◌∙◌, subst, Result, Ok, Option, Some, None}
use Rattle.std.specs.Prelude.{length, not, ◌||◌}
use Rattle.sac_base.specs.Arrays.{ArrayValue, size}
use Rattle.counted_code.specs.Loops as machine
use Rattle.counted_code.specs.Loops.{Job, Claimed, claim, claimed_does, count_phase, job_does, release_rest, settled, write_cell, Inside, Fresh, cells_do}
use Rattle.counted_code.specs.Values.{Heap, Ended, Done, Failed, go_on, is_small}
use Rattle.sac_base.specs.declared.stop.Stop.{Stop}
use Rattle.run_values.specs.declared.value.RunValue.{RunValue}
use Rattle.run_store.specs.Targets.{target_of, target_at}
use Rattle.run_store.specs.declared.target.Target.{Target}
use Rattle.buffer_heap.specs.declared.heap.BufferId.{BufferId}
use Rattle.run_loops.specs.declared.state.State.{State}
use Rattle.run_loops.specs.Running.{IsAt, Told, ToldStop, IsValue}
use Rattle.run_loops.specs.Loops.{IsBegun, cells_run, fold_target}
use Rattle.run_eval.proofs.CellTold.{followed}
use Rattle.run_eval.proofs.CellRuns.{Cells, as_many, unwritten}
use Rattle.run_loops.proofs.Steps.{stop_then}

-- ---- a new result is written when it is finished

abbrev pub WritesNothing : machine.Target → Type 0
WritesNothing t = (k : ℕ) (c : Option ArrayValue) (h : Heap) → write_cell t k c h ≡ h

at_nothing : (buffer : Option BufferId) → WritesNothing (target_at buffer)
at_nothing None k c h = refl
at_nothing (Some id) k c h = refl

pub target_nothing : (t : Target) → WritesNothing (target_of t)
target_nothing t = at_nothing t.buffer

pub fold_nothing : (t : Option Target) → WritesNothing (fold_target t)
fold_nothing None k c h = refl
fold_nothing (Some t) k c h = target_nothing t k c h

-- ---- jobs

unchanged : {A : Type 0} (end : Ended A) → go_on end (λ v k. Done v k) ≡ end
unchanged (Done v k) = refl
unchanged (Failed f phases) = refl

-- after the claim
pub claimed_is : (j : Job) (c : Claimed) (t : machine.Target) → t ≡ c.target → c.rest ≡ None → WritesNothing t
    → claimed_does j c ≡ go_on (cells_run j.form j.source j.indices c.heap) (λ found. settled t (j.result found))
claimed_is j c t target rest nothing =
    (λ i. go_on (cells_do j.form j.source (write_cell (sym target i)) 0 j.indices c.heap) (λ found h. go_on (settled (sym target i) (j.result found) h) (λ v k. Done v (release_rest (rest i) k))))
    ∙ ap (λ e. go_on e (λ found h. go_on (settled t (j.result found) h) (λ v k. Done v k))) (unwritten j.form j.source (write_cell t) nothing 0 j.indices c.heap)
    ∙ (λ i. go_on (cells_run j.form j.source j.indices c.heap) (λ found h. unchanged (settled t (j.result found) h) i))

abbrev pub claim_of : Job → Heap → Claimed
claim_of j m = claim (is_small j.shape) None (size j.shape) (count_phase (j.folds || not (is_small j.shape)) (length j.indices) m)

module _ (j : Job) (m : Heap) (t : machine.Target) (s0 : State) (begun : IsBegun t s0 (claim_of j m)) (nothing : WritesNothing t) where
  job_is : job_does None j m ≡ go_on (cells_run j.form j.source j.indices (claim_of j m).heap) (λ found. settled t (j.result found))
  job_is = claimed_is j (claim_of j m) t begun.target begun.rest nothing

  pub job_stops : (stop : Stop) (s : State) → ToldStop stop s (cells_run j.form j.source j.indices (claim_of j m).heap) → ToldStop stop s (job_does None j m)
  job_stops stop s told = subst (ToldStop stop s) (sym job_is) (stop_then stop s (cells_run j.form j.source j.indices (claim_of j m).heap) (λ found. settled t (j.result found)) told)

  pub job_ends : {A : Type 0} (R : A → Cells → Type 0) (a : A) (made : ArrayValue) (r : Result RunValue Stop) (s s2 : State)
      → ((found : Cells) → R a found → made ≡ j.result found) → Told R (Ok a) s (cells_run j.form j.source j.indices (claim_of j m).heap)
      → ((h : Heap) → IsAt s h → Told IsValue r s2 (settled t made h)) → Told IsValue r s2 (job_does None j m)
  job_ends R a made r s s2 is told finished =
      subst (Told IsValue r s2) (sym job_is)
      (followed R IsValue a s (cells_run j.form j.source j.indices (claim_of j m).heap) (λ found. settled t (j.result found)) r s2
      (λ found h agrees at. subst (λ a. Told IsValue r s2 (settled t a h)) (is found agrees) (finished h at)) told)

-- a job whose result of as many cells is the same
pub same_result : (j : Job) (result : Cells → ArrayValue) (t : machine.Target) (c : Claimed) → t ≡ c.target → c.rest ≡ None → WritesNothing t
    → ((found : Cells) → length found ≡ length j.indices → j.result found ≡ result found)
    → claimed_does j c ≡ claimed_does (record j { result = result }) c
same_result j result t c target rest nothing same =
    claimed_is j c t target rest nothing
    ∙ after (cells_run j.form j.source j.indices c.heap) refl
    ∙ sym (claimed_is (record j { result = result }) c t target rest nothing)
  where
    after : (end : Ended Cells) → cells_run j.form j.source j.indices c.heap ≡ end → go_on end (λ found. settled t (j.result found)) ≡ go_on end (λ found. settled t (result found))
    after (Failed f phases) is = refl
    after (Done found h) is = ap (λ a. settled t a h) (same found (as_many j.form j.source j.indices c.heap h found is))

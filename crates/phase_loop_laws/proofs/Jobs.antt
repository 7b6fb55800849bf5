-- Phases whose cells stand alone.
use Rattle.std.proofs.Common.{◌≡◌, ℕ, ◌++◌, Bool, true, false, List, [], ◌∷◌, length, ℤ, Option, None, Result, Ok, Err, refl, ap, ◌∙◌, sym, subst}
use Rattle.std.specs.Prelude.{IsTrue}
use Rattle.sac_base.specs.declared.base.Base.{Base}
use Rattle.sac_base.specs.declared.faults.Fault.{Fault}
use Rattle.sac_base.specs.Arrays.{ArrayValue, size}
use Rattle.sac_base.specs.Outcomes.{Ends}
use Rattle.sac_base.specs.WithLoops.{each}
use Rattle.counted_code.specs.Loops.{Job, Claimed, Target, Inside, Fresh, Old, cells_do, write_cell, claim, count_phase, release_rest, settled, claimed_does, job_does}
use Rattle.counted_code.specs.Values.{Heap, Done, Failed, go_on, then_go, is_small}
use Rattle.phase_laws.specs.Alone.{IsNew}
use Rattle.phase_laws.specs.Spending.{total}
use Rattle.phase_loop_laws.specs.Ordered.{StandsAlone, EndsWith, is_phase, begun, Settles}
use Rattle.sac_base.specs.declared.stop.Stop.{Stop}
use Rattle.sac_base.specs.declared.stop.Stop.TheVariants.{Faulted, Memory}
use Rattle.phase_loop_laws.specs.Worked.{IsResult, PhaseEnds}
use Rattle.phase_loop_laws.proofs.Cells.{cells_end, ends_with, fails_with}

-- ---- what is claimed

claims_new : (small : Bool) (n : ℕ) (h : Heap) → IsNew (claim small None n h).target
claims_new true n h = tt
claims_new false n h = tt

no_rest : (small : Bool) (n : ℕ) (h : Heap) → (claim small None n h).rest ≡ None
no_rest true n h = refl
no_rest false n h = refl

same_phases : (small : Bool) (n : ℕ) (h : Heap) → (claim small None n h).heap.phases ≡ h.phases
same_phases true n h = refl
same_phases false n h = refl

-- a phase is counted
phase_begins : (j : Job) (m : Heap) → IsTrue (is_phase j) → job_does None j m ≡ claimed_does j (begun j m)
phase_begins j m phase = ap (λ (b : Bool). claimed_does j (claim (is_small j.shape) None (size j.shape) (count_phase b (length j.indices) m))) phase

-- ---- what is done with it

settled_done : (t : Target) (r : ArrayValue) (k : Heap) → go_on (settled t r k) (λ v l. Done v l) ≡ settled t r k
settled_done Inside r k = refl
settled_done (Fresh b) r k = refl
settled_done (Old b) r k = refl

claimed_settles : (j : Job) (c : Claimed) → c.rest ≡ None → (cs : List (Option ArrayValue)) (n : ℕ) → EndsWith cs n c.heap (cells_do j.form j.source (write_cell c.target) 0 j.indices c.heap) → Settles (j.result cs) n c (claimed_does j c)
claimed_settles j c none cs n e = record {
  heap = e.heap;
  ends = (λ i. go_on (e.ends i) (λ found h. then_go (settled c.target (j.result found)) (λ v k. Done v (release_rest (none i) k)) h)) ∙ settled_done c.target (j.result cs) e.heap;
  passed = e.passed;
}

claimed_fails : (j : Job) (c : Claimed) (f : Fault) → cells_do j.form j.source (write_cell c.target) 0 j.indices c.heap ≡ Failed f c.heap.phases → claimed_does j c ≡ Failed f c.heap.phases
claimed_fails j c f e = λ i. go_on (e i) (λ found h. then_go (settled c.target (j.result found)) (λ v k. Done v (release_rest c.rest k)) h)

module _ (m : Heap) (j : Job) (phase : IsTrue (is_phase j)) (cell : List ℤ → Ends (Option ArrayValue)) (takes : List ℤ → ℕ) (stands : StandsAlone (begun j m).heap j.form j.source cell takes) where
  abbrev new : IsNew (begun j m).target
  new = claims_new (is_small j.shape) (size j.shape) (count_phase true (length j.indices) m)

  pub phase_settles : (cs : List (Option ArrayValue)) → each cell j.indices ≡ Ok cs → Settles (j.result cs) (total takes j.indices) (begun j m) (job_does None j m)
  phase_settles cs is =
      let c = begun j m in
      let run = cells_do j.form j.source (write_cell c.target) 0 j.indices c.heap in
      subst (Settles (j.result cs) (total takes j.indices) c) (sym (phase_begins j m phase))
      (claimed_settles j c (no_rest (is_small j.shape) (size j.shape) (count_phase true (length j.indices) m)) cs (total takes j.indices)
      (ends_with (total takes j.indices) c.heap run (each cell j.indices) cs (cells_end c.heap j.form j.source cell takes stands c.target new 0 j.indices) is))

  pub phase_fails : (f : Fault) → each cell j.indices ≡ Err f → job_does None j m ≡ Failed f (m.phases ++ length j.indices ∷ [])
  phase_fails f is =
      let c = begun j m in
      let run = cells_do j.form j.source (write_cell c.target) 0 j.indices c.heap in
      phase_begins j m phase
      ∙ claimed_fails j c f (fails_with (total takes j.indices) c.heap run (each cell j.indices) f (cells_end c.heap j.form j.source cell takes stands c.target new 0 j.indices) is)
      ∙ ap (λ ps. Failed f ps) (same_phases (is_small j.shape) (size j.shape) (count_phase true (length j.indices) m))

  pub phase_ends : (base : Base) (shape : List ℕ) (es : List ℤ) (end : Result (Unit {0}) Stop) → IsResult j.result base shape (each cell j.indices) es end → PhaseEnds j base shape (total takes j.indices) m es end
  phase_ends base shape es (Ok done) is =
      subst (λ r. Settles r (total takes j.indices) (begun j m) (job_does None j m)) is.2 (phase_settles is.0 is.1)
  phase_ends base shape es (Err (Faulted f)) is = phase_fails f is
  phase_ends base shape es (Err Memory) is = tt

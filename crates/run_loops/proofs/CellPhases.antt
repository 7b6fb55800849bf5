-- Phases that are counted.
use Rattle.std.proofs.Common.{◌≡◌, ℕ, [], ◌∷◌, ◌++◌, Bool, true, false, None, Result, Ok, Err, OnOk, refl, sym, subst}
use Rattle.counted_code.specs.Loops.{claim, count_phase}
use Rattle.counted_code.specs.Values.{Heap}
use Rattle.phase_count.specs.Tallies.{Counts, one_more}
use Rattle.phase_count.proofs.Tallying.{counts_as, counts_more}
use Rattle.run_store.specs.Stands.{Stands}
use Rattle.run_store.specs.Targets.{IsClaimed, target_of}
use Rattle.run_store.specs.declared.target.Target.{Target}
use Rattle.sac_base.specs.declared.memory.Memory as memory
use Rattle.run_loops.specs.declared.state.State.{State}
use Rattle.run_loops.specs.Loops.{IsBegun}
use Rattle.run_loops.specs.Running.{IsAt}
use Rattle.run_store.proofs.Targets.{phases_stand}

pub count_stands : (s t : State) (b : Bool) (m : Heap) (n k : ℕ) → n ≡ k → b ≡ true → t.heap ≡ s.heap → t.phases ≡ one_more k s.phases → IsAt s m → IsAt t (count_phase b n m)
count_stands s t b m n k long is heap phases at =
    subst (λ b. IsAt t (count_phase b n m)) (sym is)
    (record {
      heap = subst (λ h. Stands h (record m { phases = m.phases ++ n ∷ [] })) (sym heap) (phases_stand s.heap m (m.phases ++ n ∷ []) at.heap);
      phases = subst (λ (i : ℕ). Counts t.phases (m.phases ++ i ∷ [])) (sym long) (counts_as (one_more k s.phases) t.phases (m.phases ++ k ∷ []) (m.phases ++ k ∷ []) phases refl (counts_more s.phases m.phases k at.phases));
    })

pub counted_stands : (r : Result (Unit {0}) memory.Memory) (s t : State) (b : Bool) (m : Heap) (n k : ℕ) → n ≡ k → b ≡ true → t.heap ≡ s.heap → OnOk r (t.phases ≡ one_more k s.phases) → IsAt s m → OnOk r (IsAt t (count_phase b n m))
counted_stands (Ok done) s t b m n k long is heap phases at = count_stands s t b m n k long is heap phases at
counted_stands (Err e) s t b m n k long is heap phases at = tt

-- a result is claimed, once its phase is counted
claim_phases : (small : Bool) (n : ℕ) (m : Heap) → (claim small None n m).heap.phases ≡ m.phases
claim_phases true n m = refl
claim_phases false n m = refl

pub claimed_begun : (t : Target) (u v : State) (small : Bool) (n : ℕ) (k : Heap) → IsAt u k → v.phases ≡ u.phases → IsClaimed t v.heap (claim small None n k)
    → IsBegun (target_of t) v (claim small None n k)
claimed_begun t u v small n k at same is = record {
  target = is.target;
  rest = is.rest;
  stands = record {
    heap = is.heap;
    phases = counts_as u.phases v.phases k.phases (claim small None n k).heap.phases same (sym (claim_phases small n k)) at.phases;
  };
}

-- Results that are begun.
use Rattle.std.proofs.Common.{◌≡◌, ℕ, Bool, true, false, None, Result, Ok, Err, refl, sym}
use Rattle.std.specs.Prelude.{IfOk}
use Rattle.counted_code.specs.Loops.{claim}
use Rattle.counted_code.specs.Values.{Heap}
use Rattle.phase_count.specs.Tallies.{Counts}
use Rattle.phase_count.proofs.Tallying.{counts_on}
use Rattle.run_loops.specs.Loops.{IsBegun}
use Rattle.run_loops.specs.declared.state.State.{State}
use Rattle.run_store.specs.Targets.{IsClaimed, target_of}
use Rattle.run_store.specs.declared.store.Store.{Store}
use Rattle.run_store.specs.declared.target.Target.{Target}
use Rattle.sac_base.specs.declared.memory.Memory as memory

pub claim_phases : (small : Bool) (n : ℕ) (k : Heap) → (claim small None n k).heap.phases ≡ k.phases
claim_phases true n k = refl
claim_phases false n k = refl

pub begun_claim : (r : Result Target memory.Memory) (s : State) (h : Store) (small : Bool) (n : ℕ) (k : Heap) → Counts s.phases k.phases → IfOk r (λ t. IsClaimed t h (claim small None n k)) → IfOk r (λ t. IsBegun (target_of t) (record s { heap = h }) (claim small None n k))
begun_claim (Err e) s h small n k phases claimed = tt
begun_claim (Ok t) s h small n k phases claimed = record {
  target = claimed.target;
  rest = claimed.rest;
  stands = record { heap = claimed.heap; phases = counts_on s.phases k.phases (claim small None n k).heap.phases (sym (claim_phases small n k)) phases };
}

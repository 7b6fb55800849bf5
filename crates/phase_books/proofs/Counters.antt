-- What a phase has counted behind the heap that lends.
use Rattle.std.proofs.Common.{◌≡◌, ℕ, zero, suc, ◌+◌, ◌%◌, ◌^◌, List, ℤ, None, Result, Ok, Err, OnOk, refl, ap, ◌∙◌, subst, arith}
use Rattle.buffer_heap.specs.Heaps.{HeapValue, at}
use Rattle.phase_cells.specs.Idle.{counter, raise}
use Rattle.run_store.proofs.Opening.{behind_heap}
use Rattle.sac_base.specs.declared.op.Op.{Op}
use Rattle.wl_core.specs.Machine.{CellValue}
use Rattle.sac_base.specs.declared.stop.Stop.{Stop}
use Rattle.sac_base.specs.declared.stop.Stop.TheVariants.{Faulted, Memory}
use Rattle.phase_team.specs.Endings.{IsArray, IsCombined}
use Rattle.phase_team.specs.Segments.{Costs, cost_from}
use Rattle.phase_books.specs.Homes.{CombinesAll, ComputesAll, IsBehind, OrNoMemory, left_in}

-- what costs nothing anywhere
nothing : (start n : ℕ) → cost_from (λ p. 0) start n ≡ 0
nothing start zero = refl
nothing start (suc n) = let rest = nothing (suc start) n in omega (arith, rest)

module _ (lends home : HeapValue) (takes : ℕ → ℕ) (positions : ℕ) (empty : (b : ℕ) → at home b ≡ None) (costs : Costs (λ kind p. raise (takes p) kind) 0 positions (counter (behind_heap lends)) (counter home)) where
  abbrev n : ℕ
  n = cost_from takes 0 positions

  from_none : (k : ℕ) → 0 + k ≡ k
  from_none k = omega arith

  pub behind_counts : IsBehind lends n home
  behind_counts = record {
    empty = empty;
    births = costs 0;
    taken = costs 1 ∙ ap (λ k. k % 2 ^ 64) (from_none n);
    given = costs 2 ∙ ap (λ k. k % 2 ^ 64) (from_none n);
    reused = costs 3 ∙ ap (λ k. (0 + k) % 2 ^ 64) (nothing 0 positions);
  }

module _ (lends begun home : HeapValue) (takes : ℕ → ℕ) (positions : ℕ) (r : Result (Unit {0}) Stop) (begins : begun ≡ behind_heap lends) (costs : Costs (λ kind p. raise (takes p) kind) 0 positions (counter begun) (counter home)) (empty : OnOk r ((b : ℕ) → at home b ≡ None)) (no_fault : OrNoMemory r) where
  costs_behind : Costs (λ kind p. raise (takes p) kind) 0 positions (counter (behind_heap lends)) (counter home)
  costs_behind = subst (λ h. Costs (λ kind p. raise (takes p) kind) 0 positions (counter h) (counter home)) begins costs

  left : ((b : ℕ) → at home b ≡ None) → IsBehind lends (cost_from takes 0 positions) home
  left none = behind_counts lends home takes positions none costs_behind

  pub computes : (cells : List CellValue) (elements : List ℤ) → IsArray cells elements (Ok tt) → ComputesAll cells lends (cost_from takes 0 positions) elements (left_in home r)
  computes cells elements array = go r empty no_fault
    where
      go : (r : Result (Unit {0}) Stop) → OnOk r ((b : ℕ) → at home b ≡ None) → OrNoMemory r → ComputesAll cells lends (cost_from takes 0 positions) elements (left_in home r)
      go (Ok done) none ok = (array, left none)
      go (Err Memory) none ok = tt
      go (Err (Faulted fault)) none ok = absurd ok

  pub combines : (op : Op) (cells : List CellValue) (neutral value : List ℤ) → IsCombined op cells neutral value (Ok tt) → CombinesAll op cells lends (cost_from takes 0 positions) neutral value (left_in home r)
  combines op cells neutral value combined = go r empty no_fault
    where
      go : (r : Result (Unit {0}) Stop) → OnOk r ((b : ℕ) → at home b ≡ None) → OrNoMemory r → CombinesAll op cells lends (cost_from takes 0 positions) neutral value (left_in home r)
      go (Ok done) none ok = (combined, left none)
      go (Err Memory) none ok = tt
      go (Err (Faulted fault)) none ok = absurd ok

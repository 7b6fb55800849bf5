use Rattle.std.proofs.Common.{◌≡◌, drop, map}
use Rattle.counted_code.specs.Values.{Heap, release_all}
use Rattle.run_store.specs.Stands.{Stands, lender_of}
use Rattle.run_values.specs.Shown.{value_of}
use Rattle.run_eval.proofs.program.release_all.Given as goal

abbrev pub invariant-loop-value : goal.invariant-loop-value
invariant-loop-value l = record {
  released : (m : Heap) → Stands l.initial.heap m → (k : Heap) × Stands l.heap k × (release_all (map value_of (drop l.value-index l.values)) k ≡ release_all (map value_of l.values) m);
  lender : lender_of l.heap ≡ lender_of l.initial.heap;
}

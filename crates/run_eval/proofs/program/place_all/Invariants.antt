use Rattle.std.proofs.Common.{◌≡◌, map}
use Rattle.core_facts.specs.calls.Arrays.{AllFull}
use Rattle.counted_code.specs.Values.{Heap, place_all}
use Rattle.run_store.specs.Stands.{Stands, lender_of}
use Rattle.run_values.specs.Shown.{value_of}
use Rattle.run_eval.proofs.WholeRuns.{places_on}
use Rattle.run_eval.proofs.program.place_all.Given as goal

abbrev pub invariant-loop-array : goal.invariant-loop-array
invariant-loop-array l = record {
  placed : (m : Heap) → Stands l.initial.heap m → (k : Heap) × Stands l.heap k × (places_on (map value_of l.values.items) l.array-iterator.rest.items k ≡ place_all l.initial.array-iterator.rest.items m);
  full : AllFull l.array-iterator.rest.items → AllFull l.initial.array-iterator.rest.items;
  lender : lender_of l.heap ≡ lender_of l.initial.heap;
}

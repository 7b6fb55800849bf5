use Rattle.std.proofs.Common.{◌≡◌, map, take}
use Rattle.counted_code.specs.Values.{Heap, read}
use Rattle.run_store.specs.Stands.{Stands}
use Rattle.run_values.specs.Shown.{value_of}
use Rattle.run_eval.proofs.program.read_all.Given as goal

abbrev pub invariant-loop-value : goal.invariant-loop-value
invariant-loop-value l = (m : Heap) → Stands l.heap m → l.arrays.items ≡ map (read m) (map value_of (take l.value-index l.values))

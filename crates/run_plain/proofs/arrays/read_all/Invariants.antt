use Rattle.std.proofs.Common.{◌≡◌, take}
use Rattle.counted_code.specs.Values.{Heap}
use Rattle.run_store.specs.Stands.{Stands}
use Rattle.run_values.specs.Scopes.{current}
use Rattle.run_plain.specs.Reads.{arrays_of}
use Rattle.run_plain.proofs.arrays.read_all.Given as goal

abbrev pub invariant-loop-x : goal.invariant-loop-x
invariant-loop-x l = (m : Heap) → Stands l.heap m → l.arrays.items ≡ arrays_of m (current l.frames) (take l.x-index l.xs)

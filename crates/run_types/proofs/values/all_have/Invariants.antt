use Rattle.std.proofs.Common.{◌≡◌, drop}
use Rattle.sac_base.specs.Types.{all_have}
use Rattle.counted_code.specs.Values.{Heap}
use Rattle.run_types.specs.Reading.{arrays_in}
use Rattle.run_types.proofs.values.all_have.Given as goal

abbrev pub invariant-loop-k : goal.invariant-loop-k
invariant-loop-k l = (h : Heap) → all_have (drop l.k l.types) (arrays_in h (drop l.k l.values)) ≡ all_have l.types (arrays_in h l.values)

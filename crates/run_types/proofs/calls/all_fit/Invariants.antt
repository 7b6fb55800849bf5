use Rattle.std.proofs.Common.{◌≡◌, drop}
use Rattle.sac_base.specs.Types.{all_have}
use Rattle.counted_code.specs.Values.{Heap}
use Rattle.run_types.specs.Choosing.{types_of}
use Rattle.run_types.specs.Reading.{arrays_in}
use Rattle.run_types.proofs.calls.all_fit.Given as goal

abbrev pub invariant-loop-k : goal.invariant-loop-k
invariant-loop-k l = (h : Heap) → all_have (types_of (drop l.k l.params)) (arrays_in h (drop l.k l.args)) ≡ all_have (types_of l.params) (arrays_in h l.args)

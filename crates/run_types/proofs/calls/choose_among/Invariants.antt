use Rattle.std.proofs.Common.{◌≡◌, drop}
use Rattle.core_ir.specs.Outcome.{instances, least_among}
use Rattle.counted_code.specs.Values.{Heap}
use Rattle.run_types.specs.Choosing.{functions_of, least_in}
use Rattle.run_types.specs.Reading.{arrays_in}
use Rattle.run_types.proofs.calls.choose_among.Given as goal

abbrev pub invariant-loop-place : goal.invariant-loop-place
invariant-loop-place l =
    (h : Heap) →
    least_among (instances (functions_of l.functions) l.places) (arrays_in h l.args) (instances (functions_of l.functions) (drop l.place-index l.places))
    ≡ least_in (functions_of l.functions) l.places (arrays_in h l.args)

use Rattle.std.proofs.Common.{◌≡◌, drop}
use Rattle.std.specs.List.{list_all}
use Rattle.core_ir.specs.Outcome.{Instance, instances}
use Rattle.counted_code.specs.Values.{Heap}
use Rattle.run_types.specs.Choosing.{functions_of, types_of, is_beside}
use Rattle.run_types.specs.Reading.{arrays_in}
use Rattle.run_types.proofs.calls.is_least.Given as goal

abbrev pub invariant-loop-place : goal.invariant-loop-place
invariant-loop-place l =
    (h : Heap) →
    list_all (λ (j : Instance). is_beside (types_of l.params) (arrays_in h l.args) j.types) (instances (functions_of l.functions) (drop l.place-index l.places))
    ≡ list_all (λ (j : Instance). is_beside (types_of l.params) (arrays_in h l.args) j.types) (instances (functions_of l.functions) l.places)

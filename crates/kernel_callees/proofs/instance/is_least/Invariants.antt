use Rattle.std.proofs.Common.{Bool, drop}
use Rattle.std.specs.List.{list_all}
use Rattle.core_ir.specs.Outcome.{Instance, instances}
use Rattle.kernel_callees.specs.Choosing.{Decides, functions_of, is_beside, types_of}
use Rattle.kernel_callees.proofs.instance.is_least.Given as goal

-- what is left decides
abbrev pub invariant-loop-place : goal.invariant-loop-place
invariant-loop-place l =
    (b : Bool) → Decides l.args (λ vs. list_all (λ (j : Instance). is_beside (types_of l.params) vs j.types) (instances (functions_of l.functions) (drop l.place-index l.places))) b
    → Decides l.args (λ vs. list_all (λ (j : Instance). is_beside (types_of l.params) vs j.types) (instances (functions_of l.functions) l.places)) b

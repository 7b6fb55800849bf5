use Rattle.std.proofs.Common.{◌≡◌, ℕ, ℤ, drop, map, List}
use Rattle.std.specs.Prelude.{All}
use Rattle.sac_base.specs.Arrays.{ArrayValue}
use Rattle.core_ir.specs.Outcome.{instances, least_among}
use Rattle.kernel_code.specs.Relations.{IsReadable, array_of}
use Rattle.kernel_callees.specs.Choosing.{functions_of, least_in}
use Rattle.kernel_callees.proofs.instance.choose_among.Given as goal

-- whatever the arguments, what is left decides
abbrev pub invariant-loop-place : goal.invariant-loop-place
invariant-loop-place l =
    (r : List ℤ) (bs : List ArrayValue) (next : ℕ) → All (IsReadable bs next) l.args
    → least_among (instances (functions_of l.functions) l.places) (map (array_of r bs) l.args) (instances (functions_of l.functions) (drop l.place-index l.places))
    ≡ least_in (functions_of l.functions) l.places (map (array_of r bs) l.args)

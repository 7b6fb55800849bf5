use Rattle.std.proofs.Common.{◌≡◌, map, take}
use Rattle.core_ir.specs.View.{fun_term}
use Rattle.core_ir.proofs.copy.copy_functions.Given as goal

abbrev pub invariant-loop-function : goal.invariant-loop-function
invariant-loop-function l = map fun_term l.copy.items ≡ map fun_term (take l.function-index l.functions)

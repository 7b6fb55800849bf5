use Rattle.std.proofs.Common.{◌≡◌, ◌++◌, map}
use Rattle.core_ir.specs.View.{fun_term}
use Rattle.dense_variables.specs.Dense.{numbered_function}
use Rattle.dense_variables.proofs.pass.in_functions.Given as goal

abbrev pub invariant-loop-function : goal.invariant-loop-function
invariant-loop-function l = map fun_term l.dense.items ++ map numbered_function (map fun_term l.function-iterator.rest.items) ≡ map numbered_function (map fun_term l.initial.function-iterator.rest.items)

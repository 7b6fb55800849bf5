use Rattle.std.proofs.Common.{◌≡◌, ◌++◌, map}
use Rattle.core_ir.specs.View.{fun_term}
use Rattle.copy_propagation.specs.Forwarded.{forwarded_function}
use Rattle.copy_propagation.proofs.functions.in_functions.Given as goal

abbrev pub invariant-loop-function : goal.invariant-loop-function
invariant-loop-function l = map fun_term l.forwarded.items ++ map forwarded_function (map fun_term l.function-iterator.rest.items) ≡ map forwarded_function (map fun_term l.initial.function-iterator.rest.items)

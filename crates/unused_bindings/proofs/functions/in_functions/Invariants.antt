use Rattle.std.proofs.Common.{◌≡◌, ◌++◌, map}
use Rattle.core_ir.specs.View.{fun_term}
use Rattle.plain_facts.specs.Called.{shapes_of}
use Rattle.unused_bindings.specs.Swept.{swept_function}
use Rattle.unused_bindings.proofs.functions.in_functions.Given as goal

abbrev pub invariant-loop-function : goal.invariant-loop-function
invariant-loop-function l = map fun_term l.swept.items ++ map (swept_function (shapes_of l.called)) (map fun_term l.function-iterator.rest.items) ≡ map (swept_function (shapes_of l.called)) (map fun_term l.initial.function-iterator.rest.items)

use Rattle.std.proofs.Common.{◌≡◌, ◌+◌, ◌++◌, map}
use Rattle.std.specs.List.{sum}
use Rattle.core_ir.specs.View.{fun_term}
use Rattle.plain_facts.specs.Called.{shapes_of}
use Rattle.vector_selections.specs.Vectored.{vectored_function, vectors_in}
use Rattle.vector_selections.proofs.functions.in_functions.Given as goal

abbrev pub invariant-loop-function : goal.invariant-loop-function
invariant-loop-function l = record {
  functions : map fun_term l.vectored.items ++ map (vectored_function (shapes_of l.called)) (map fun_term l.function-iterator.rest.items) ≡ map (vectored_function (shapes_of l.called)) (map fun_term l.initial.function-iterator.rest.items);
  count : l.count + sum (map (vectors_in (shapes_of l.called)) (map fun_term l.function-iterator.rest.items)) ≡ sum (map (vectors_in (shapes_of l.called)) (map fun_term l.initial.function-iterator.rest.items));
}

use Rattle.std.proofs.Common.{◌≡◌, ◌++◌, map}
use Rattle.core_ir.specs.View.{fun_term}
use Rattle.plain_facts.specs.Called.{shapes_of}
use Rattle.const_shape.specs.Settling.{settled_by}
use Rattle.const_shape.proofs.functions.settle_all.Given as goal

abbrev pub invariant-loop-function : goal.invariant-loop-function
invariant-loop-function l = map fun_term l.settled.items ++ map (settled_by (shapes_of l.called)) (map fun_term l.function-iterator.rest.items) ≡ map (settled_by (shapes_of l.called)) (map fun_term l.initial.function-iterator.rest.items)

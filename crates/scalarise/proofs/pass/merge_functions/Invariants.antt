use Rattle.std.proofs.Common.{map}
use Rattle.core_ir.specs.View.{fun_term}
use Rattle.plain_facts.specs.Called.{shapes_of}
use Rattle.scalarise.proofs.Turns.{SoFar}
use Rattle.scalarise.proofs.pass.merge_functions.Given as goal

abbrev pub invariant-loop-function : goal.invariant-loop-function
invariant-loop-function l =
    SoFar (shapes_of l.called) (map fun_term l.initial.function-iterator.rest.items) (map fun_term l.walked.items) l.merged (map fun_term l.function-iterator.rest.items)

use Rattle.core_ir.specs.View.{core_term}
use Rattle.unreached_functions.proofs.Places.{CallsMarkedBelow}
use Rattle.unreached_functions.proofs.marking.are_calls_marked.Given as goal

abbrev pub invariant-loop-k : goal.invariant-loop-k
invariant-loop-k l = CallsMarkedBelow (core_term l.core) l.marks.groups.items l.marks.functions.items l.k

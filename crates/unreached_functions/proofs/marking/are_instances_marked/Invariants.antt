use Rattle.core_ir.specs.View.{core_term}
use Rattle.unreached_functions.proofs.Places.{InstancesBelow}
use Rattle.unreached_functions.proofs.marking.are_instances_marked.Given as goal

abbrev pub invariant-loop-k : goal.invariant-loop-k
invariant-loop-k l = InstancesBelow (core_term l.core) l.marks.groups.items l.marks.functions.items l.k

use Rattle.unreached_functions.proofs.Places.{MarkedBelow}
use Rattle.unreached_functions.proofs.marking.are_marked.Given as goal

abbrev pub invariant-loop-k : goal.invariant-loop-k
invariant-loop-k l = MarkedBelow l.marks l.places l.k

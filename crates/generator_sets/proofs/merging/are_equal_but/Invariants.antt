use Rattle.generator_sets.proofs.Joining.{SameBelow}
use Rattle.generator_sets.proofs.merging.are_equal_but.Given as goal

abbrev pub invariant-loop-k : goal.invariant-loop-k
invariant-loop-k l = SameBelow l.k l.axis l.a l.b

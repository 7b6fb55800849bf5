use Rattle.generator_sets.proofs.Moves.{MovedSoFar}
use Rattle.generator_sets.proofs.moving.shift.Given as goal

abbrev pub invariant-loop-k : goal.invariant-loop-k
invariant-loop-k l = MovedSoFar l.fn.a l.by l.k l.axes.items

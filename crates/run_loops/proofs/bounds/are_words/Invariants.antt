use Rattle.std.proofs.Common.{All, take}
use Rattle.run_loops.specs.Loops.{IsWordAxis}
use Rattle.run_loops.proofs.bounds.are_words.Given as goal

abbrev pub invariant-loop-k : goal.invariant-loop-k
invariant-loop-k l = All IsWordAxis (take l.k l.axes)

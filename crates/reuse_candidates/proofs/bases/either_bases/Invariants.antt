use Rattle.std.proofs.Common.{◌≡◌, ◌++◌, drop}
use Rattle.counted_marks.specs.Bases.{either_bases}
use Rattle.reuse_candidates.proofs.bases.either_bases.Given as goal

abbrev pub invariant-loop-k : goal.invariant-loop-k
invariant-loop-k l = l.bases.items ++ either_bases (drop l.k l.a) (drop l.k l.b) ≡ either_bases l.a l.b

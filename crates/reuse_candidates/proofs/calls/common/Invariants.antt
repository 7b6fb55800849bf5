use Rattle.std.proofs.Common.{◌≡◌, ◌++◌, drop}
use Rattle.counted_marks.specs.Bases.{common_bases}
use Rattle.reuse_candidates.proofs.calls.common.Given as goal

abbrev pub invariant-loop-k : goal.invariant-loop-k
invariant-loop-k l = l.bases.items ++ common_bases (drop l.k l.a) (drop l.k l.b) ≡ common_bases l.a l.b

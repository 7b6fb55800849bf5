use Rattle.std.proofs.Common.{◌≡◌, ◌++◌, drop}
use Rattle.core_facts.specs.constants.Called.{common_shapes}
use Rattle.plain_facts.proofs.called.common.Given as goal

abbrev pub invariant-loop-k : goal.invariant-loop-k
invariant-loop-k l = l.shapes.items ++ common_shapes (drop l.k l.a) (drop l.k l.b) ≡ common_shapes l.a l.b

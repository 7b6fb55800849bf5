use Rattle.std.proofs.Common.{◌≡◌, ◌<◌, drop, length, map}
use Rattle.core_ir.specs.View.{fun_term}
use Rattle.core_facts.specs.constants.Called.{shapes_at}
use Rattle.plain_facts.proofs.called.group_shapes.Given as goal

abbrev pub invariant-loop-k : goal.invariant-loop-k
invariant-loop-k l = record {
  there : l.k < length l.group;
  shapes : l.shapes.items ≡ shapes_at (map fun_term l.functions) (drop l.k l.group);
}

abbrev pub decreases-loop-k : goal.decreases-loop-k
decreases-loop-k l = l.k

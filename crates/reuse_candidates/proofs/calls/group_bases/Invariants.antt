use Rattle.std.proofs.Common.{◌≡◌, ◌<◌, drop, length, map}
use Rattle.core_ir.specs.View.{fun_term}
use Rattle.counted_marks.specs.Bases.{bases_at}
use Rattle.reuse_candidates.proofs.calls.group_bases.Given as goal

abbrev pub invariant-loop-k : goal.invariant-loop-k
invariant-loop-k l = record {
  there : l.k < length l.group;
  bases : l.bases.items ≡ bases_at (map fun_term l.functions) (drop l.k l.group);
}

abbrev pub decreases-loop-k : goal.decreases-loop-k
decreases-loop-k l = l.k

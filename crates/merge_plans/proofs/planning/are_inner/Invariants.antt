use Rattle.std.proofs.Common.{◌≡◌, ◌≤◌, drop, map}
use Rattle.core_ir.specs.View.{part_term}
use Rattle.fact_table.specs.Table.{facts_of}
use Rattle.plain_facts.specs.Called.{shapes_of}
use Rattle.merge_plans.proofs.Counting.{SoFar}
use Rattle.merge_plans.proofs.planning.are_inner.Given as goal

abbrev pub invariant-loop-part : goal.invariant-loop-part
invariant-loop-part l = record {
  facts : l.facts ≡ l.initial.facts;
  few : l.count ≤ 64;
  so_far : SoFar (shapes_of l.called) (facts_of l.initial.facts) l.frame l.base (map part_term l.parts) (map part_term (drop l.part-index l.parts)) l.count;
}

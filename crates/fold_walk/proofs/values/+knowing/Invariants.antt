use Rattle.std.proofs.Common.{◌≡◌, ◌-◌, drop, length, map}
use Rattle.core_ir.specs.View.{let_term}
use Rattle.core_loops.specs.Steps.{facts_after}
use Rattle.fact_table.specs.Table.{facts_of}
use Rattle.plain_facts.specs.Called.{shapes_of}
use Rattle.fold_walk.proofs.values.+knowing.Given as goal

abbrev pub invariant-block_values-loop-binding : goal.invariant-block_values-loop-binding
invariant-block_values-loop-binding l = record {
  facts : facts_after (shapes_of l.called) (map let_term (drop l.binding-index l.binding-items)) (facts_of l.table) ≡ facts_after (shapes_of l.called) (map let_term l.binding-items) (facts_of l.fn.table);
  earlier : drop (length l.table - length l.fn.table) l.table ≡ l.fn.table;
}

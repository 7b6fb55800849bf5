use Rattle.std.proofs.Common.{◌-◌, ◌∙◌, ap, drop, length, map, arith}
use Rattle.core_ir.specs.View.{let_term}
use Rattle.core_loops.specs.Steps.{facts_after}
use Rattle.fact_table.specs.Table.{facts_of}
use Rattle.plain_facts.specs.Called.{shapes_of}
use Rattle.fact_table.proofs.scoped_table.Marks.{earlier_on}
use Rattle.fold_walk.proofs.Learned.{after_turn, results_known}
use Rattle.fold_walk.proofs.values.+knowing.Goals as goal

pub block_values-loop-binding-preserved : goal.block_values-loop-binding-preserved
block_values-loop-binding-preserved t c =
    let called = shapes_of c.args.called.now in
    let ls = c.deref-binding-items.result.now in
    let start = c.args.table.now in
    record {
      facts = after_turn called ls c.loop-binding.binding-index c.binding-item.result (facts_of c.loop-binding.table) (facts_of c.learn_binding.new.table) (facts_after called (map let_term ls) (facts_of start))
          (omega arith) c.binding-item.is c.loop-binding.invariant.facts c.in_ok-learn_binding.ensures.learned;
      earlier = earlier_on start c.loop-binding.table c.learn_binding.new.table c.loop-binding.invariant.earlier c.in_ok-learn_binding.ensures.earlier;
    }

pub block_values-returns-clause-known : goal.block_values-returns-clause-known
block_values-returns-clause-known t c =
    let table = facts_of c.loop-binding.table in
    results_known (shapes_of c.args.called.now) c.args.block.now c.deref-binding-items.result.now c.loop-binding.binding-index (facts_of c.args.table.now) table _
    c.loop-binding.invariant.facts (omega arith) c.deref-binding-items.ensures.value (c.in_ok-known.ensures ∙ ap (map table) c.deref.ensures.value)

pub block_values-returns-clause-table : goal.block_values-returns-clause-table
block_values-returns-clause-table t c =
    c.undo.ensures ∙ ap (λ n. drop (length c.loop-binding.table - n) c.loop-binding.table) c.mark-before.ensures ∙ c.loop-binding.invariant.earlier

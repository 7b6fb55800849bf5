use Rattle.std.proofs.Common.{◌≡◌, ◌-◌, ◌++◌, map, length}
use Rattle.std.specs.Prelude.{drop}
use Rattle.core_ir.specs.Terms.{BlockTerm, chain}
use Rattle.core_ir.specs.View.{let_term}
use Rattle.core_facts.specs.Facts.{block_facts}
use Rattle.core_loops.specs.Pairs.{offsets}
use Rattle.fact_table.specs.Table.{facts_of}
use Rattle.index_table.specs.Table.{indices_of}
use Rattle.plain_facts.specs.Called.{shapes_of}
use Rattle.total_cells.specs.loop_selections.Selecting.{is_selecting}
use Rattle.total_cells.specs.loop_selections.Told.{told}
use Rattle.total_cells.proofs.loop_selections.walk.+selecting.Given as goal

abbrev pub invariant-pass_bindings-loop-binding : goal.invariant-pass_bindings-loop-binding
invariant-pass_bindings-loop-binding l = record {
  selects : (end : BlockTerm) → is_selecting l.sought.producer (chain (map let_term (drop l.binding-index l.bindings)) end) ≡ is_selecting l.sought.producer (chain (map let_term l.bindings) end);
  known : (end : BlockTerm) → block_facts (shapes_of l.called) (chain (map let_term (drop l.binding-index l.bindings)) end) (facts_of l.facts)
      ≡ block_facts (shapes_of l.called) (chain (map let_term l.bindings) end) (facts_of l.initial.facts);
  found : (end : BlockTerm) → told l.found.items ++ offsets (shapes_of l.called) l.sought.producer l.sought.axes (chain (map let_term (drop l.binding-index l.bindings)) end) (facts_of l.facts) (indices_of l.indices)
      ≡ told l.initial.found.items ++ offsets (shapes_of l.called) l.sought.producer l.sought.axes (chain (map let_term l.bindings) end) (facts_of l.initial.facts) (indices_of l.initial.indices);
  facts : drop (length l.facts - length l.initial.facts) l.facts ≡ l.initial.facts;
  indices : drop (length l.indices - length l.initial.indices) l.indices ≡ l.initial.indices;
}

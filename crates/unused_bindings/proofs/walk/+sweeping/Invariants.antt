use Rattle.std.proofs.Common.{◌≡◌, ◌++◌, ◌-◌, map, length}
use Rattle.std.specs.Prelude.{drop}
use Rattle.core_ir.specs.Terms.{BlockTerm, chain}
use Rattle.core_ir.specs.View.{let_term}
use Rattle.core_facts.specs.Facts.{block_facts}
use Rattle.core_forms.specs.cleaning.Unused.{swept}
use Rattle.fact_table.specs.Table.{facts_of}
use Rattle.plain_facts.specs.Called.{shapes_of}
use Rattle.unused_bindings.specs.Passed.{passed_term, gen_terms, part_terms}
use Rattle.unused_bindings.specs.Swept.{needed_before}
use Rattle.unused_bindings.proofs.Turns.{gens_swept, parts_swept}
use Rattle.unused_bindings.proofs.walk.+sweeping.Given as goal

abbrev pub invariant-in_block-loop-binding : goal.invariant-in_block-loop-binding
invariant-in_block-loop-binding l = record {
  bindings : (end : BlockTerm) → needed_before (map passed_term l.passed.items) (swept (shapes_of l.called) (chain (map let_term l.binding-iterator.rest.items) end) (facts_of l.table)) ≡ swept (shapes_of l.called) (chain (map let_term l.initial.binding-iterator.rest.items) end) (facts_of l.initial.table);
  facts : (end : BlockTerm) → block_facts (shapes_of l.called) (chain (map let_term l.binding-iterator.rest.items) end) (facts_of l.table) ≡ block_facts (shapes_of l.called) (chain (map let_term l.initial.binding-iterator.rest.items) end) (facts_of l.initial.table);
  earlier : drop (length l.table - l.before) l.table ≡ l.initial.table;
}

abbrev pub invariant-in_with-loop-generator : goal.invariant-in_with-loop-generator
invariant-in_with-loop-generator l = record {
  items : gen_terms l.swept.items ++ gens_swept (shapes_of l.called) (facts_of l.initial.table) l.generator-iterator.rest.items ≡ gens_swept (shapes_of l.called) (facts_of l.initial.table) l.initial.generator-iterator.rest.items;
  table : l.table ≡ l.initial.table;
}

abbrev pub invariant-in_parted-loop-part : goal.invariant-in_parted-loop-part
invariant-in_parted-loop-part l = record {
  items : part_terms l.swept.items ++ parts_swept (shapes_of l.called) (facts_of l.initial.table) l.part-iterator.rest.items ≡ parts_swept (shapes_of l.called) (facts_of l.initial.table) l.initial.part-iterator.rest.items;
  table : l.table ≡ l.initial.table;
}

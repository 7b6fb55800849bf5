use Rattle.std.proofs.Common.{◌≡◌, ◌++◌, ◌-◌, drop, length, map, take, Option, Some, List, ℕ}
use Rattle.core_ir.specs.Terms.{BlockTerm, chain}
use Rattle.core_ir.specs.View.{let_term}
use Rattle.core_facts.specs.Facts.{block_facts}
use Rattle.fact_table.specs.Table.{fact_of, facts_of}
use Rattle.plain_facts.specs.Called.{shapes_of}
use Rattle.known_calls.specs.Told.{told}
use Rattle.known_calls.proofs.Finding.{lets_known, gens_known, parts_known}
use Rattle.known_calls.proofs.walk.+finding.Given as goal

abbrev pub invariant-find_in_block-loop-binding : goal.invariant-find_in_block-loop-binding
invariant-find_in_block-loop-binding l = record {
  calls : (end : BlockTerm) → told l.calls.items ++ lets_known (shapes_of l.called) (drop l.binding-index l.binding-items) end (facts_of l.table) ≡ told l.fn.calls.items ++ lets_known (shapes_of l.called) l.binding-items end (facts_of l.fn.table);
  facts : (end : BlockTerm) → block_facts (shapes_of l.called) (chain (map let_term (drop l.binding-index l.binding-items)) end) (facts_of l.table) ≡ block_facts (shapes_of l.called) (chain (map let_term l.binding-items) end) (facts_of l.fn.table);
  earlier : drop (length l.table - l.before) l.table ≡ l.fn.table;
}

abbrev pub invariant-find_in_with-loop-generator : goal.invariant-find_in_with-loop-generator
invariant-find_in_with-loop-generator l = record {
  calls : told l.calls.items ++ gens_known (shapes_of l.called) (drop l.generator-index l.generator-items) (facts_of l.fn.table) ≡ told l.fn.calls.items ++ gens_known (shapes_of l.called) l.generator-items (facts_of l.fn.table);
  table : l.table ≡ l.fn.table;
}

abbrev pub invariant-find_in_parted-loop-part : goal.invariant-find_in_parted-loop-part
invariant-find_in_parted-loop-part l = record {
  calls : told l.calls.items ++ parts_known (shapes_of l.called) (drop l.part-index l.part-items) (facts_of l.fn.table) ≡ told l.fn.calls.items ++ parts_known (shapes_of l.called) l.part-items (facts_of l.fn.table);
  table : l.table ≡ l.fn.table;
}

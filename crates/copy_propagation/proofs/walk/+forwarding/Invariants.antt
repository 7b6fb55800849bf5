use Rattle.std.proofs.Common.{◌≡◌, ◌++◌, ◌-◌, map, length}
use Rattle.std.specs.Prelude.{drop}
use Rattle.core_ir.specs.Terms.{BlockTerm, chain}
use Rattle.core_ir.specs.View.{let_term, gen_term, part_term}
use Rattle.core_forms.specs.cleaning.Copies.{forwarded}
use Rattle.copy_propagation.specs.Table.{source_in}
use Rattle.copy_propagation.proofs.Steps.{gens_with, parts_with}
use Rattle.copy_propagation.proofs.walk.+forwarding.Given as goal

abbrev pub invariant-in_block-loop-binding : goal.invariant-in_block-loop-binding
invariant-in_block-loop-binding l = record {
  bindings : (end : BlockTerm) → chain (map let_term l.forwarded.items) (forwarded (chain (map let_term l.binding-iterator.rest.items) end) (source_in l.sources)) ≡ forwarded (chain (map let_term l.initial.binding-iterator.rest.items) end) (source_in l.initial.sources);
  earlier : drop (length l.sources - l.before) l.sources ≡ l.initial.sources;
}

abbrev pub invariant-in_with-loop-generator : goal.invariant-in_with-loop-generator
invariant-in_with-loop-generator l = record {
  items : map gen_term l.forwarded.items ++ gens_with (source_in l.initial.sources) l.generator-iterator.rest.items ≡ gens_with (source_in l.initial.sources) l.initial.generator-iterator.rest.items;
  sources : l.sources ≡ l.initial.sources;
}

abbrev pub invariant-in_parted-loop-part : goal.invariant-in_parted-loop-part
invariant-in_parted-loop-part l = record {
  items : map part_term l.forwarded.items ++ parts_with (source_in l.initial.sources) l.part-iterator.rest.items ≡ parts_with (source_in l.initial.sources) l.initial.part-iterator.rest.items;
  sources : l.sources ≡ l.initial.sources;
}

use Rattle.std.proofs.Common.{◌≡◌, drop}
use Rattle.fact_table.specs.Table.{facts_of}
use Rattle.plain_facts.specs.Called.{shapes_of}
use Rattle.foldable_pairs.proofs.Totals.{Total}
use Rattle.foldable_pairs.proofs.producer.are_total.Given as goal

abbrev pub invariant-loop-part : goal.invariant-loop-part
invariant-loop-part l = record {
  facts : l.facts ≡ l.initial.facts;
  on : Total (shapes_of l.called) (facts_of l.initial.facts) (drop l.part-index l.parts) → Total (shapes_of l.called) (facts_of l.initial.facts) l.parts;
  back : Total (shapes_of l.called) (facts_of l.initial.facts) l.parts → Total (shapes_of l.called) (facts_of l.initial.facts) (drop l.part-index l.parts);
}

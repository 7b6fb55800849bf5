use Rattle.std.proofs.Common.{◌≡◌, ◌++◌, drop, map}
use Rattle.core_facts.specs.Facts.{are_literal, are_scalars, values}
use Rattle.fact_table.specs.Table.{facts_of}
use Rattle.plain_facts.proofs.literals.scalars_of.Given as goal

abbrev pub invariant-loop-x : goal.invariant-loop-x
invariant-loop-x l = record {
  found : l.scalars.items ++ map (values (facts_of l.facts)) (drop l.x-index l.xs) ≡ map (values (facts_of l.facts)) l.xs;
  literal : are_literal (facts_of l.facts) (drop l.x-index l.xs) ≡ are_literal (facts_of l.facts) l.xs;
  scalars : are_scalars (facts_of l.facts) (drop l.x-index l.xs) ≡ are_scalars (facts_of l.facts) l.xs;
}

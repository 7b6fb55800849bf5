use Rattle.std.proofs.Common.{◌≡◌, ◌++◌, drop, map}
use Rattle.core_facts.specs.Facts.{common_facts}
use Rattle.fact_table.specs.Table.{fact_of}
use Rattle.plain_facts.proofs.lists.common_facts.Given as goal

abbrev pub invariant-loop-k : goal.invariant-loop-k
invariant-loop-k l = map fact_of l.facts.items ++ common_facts (map fact_of (drop l.k l.a)) (map fact_of (drop l.k l.b)) ≡ common_facts (map fact_of l.a) (map fact_of l.b)

use Rattle.std.proofs.Common.{◌≡◌, ◌++◌, drop, map}
use Rattle.core_facts.specs.Facts.{shape_fact}
use Rattle.fact_table.specs.Table.{fact_of}
use Rattle.plain_facts.proofs.called.CalledShapes.facts.Given as goal

abbrev pub invariant-loop-shape : goal.invariant-loop-shape
invariant-loop-shape l = map fact_of l.facts.items ++ map shape_fact (drop l.shape-index l.shape-items) ≡ map shape_fact l.shape-items

use Rattle.std.proofs.Common.{List, map, drop, ◌++◌}
use Rattle.sac_base.specs.WithLoops.{Bounds}
use Rattle.core_ir.specs.Terms.{gens_of}
use Rattle.core_ir.specs.View.{gen_term}
use Rattle.core_loops.specs.Loops.{AllLiteral}
use Rattle.fact_table.specs.Table.{facts_of}
use Rattle.partable_loops.specs.Framings.{HasBounds}
use Rattle.partable_loops.proofs.literals.literal_bounds.Given as goal

abbrev pub invariant-loop-generator : goal.invariant-loop-generator
invariant-loop-generator l = record {
  whole : (rest : List Bounds) → AllLiteral (facts_of l.table) (gens_of (map gen_term (drop l.generator-index l.gens))) rest
      → AllLiteral (facts_of l.table) (gens_of (map gen_term l.gens)) (l.bounds.items ++ rest);
  back : HasBounds (facts_of l.table) (gens_of (map gen_term l.gens)) → HasBounds (facts_of l.table) (gens_of (map gen_term (drop l.generator-index l.gens)));
}

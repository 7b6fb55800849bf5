use Rattle.std.proofs.Common.{◌≡◌, Some, drop, map}
use Rattle.sac_base.specs.declared.types.ArrayType.{ArrayType}
use Rattle.core_ir.specs.declared.tree.Var.{Var}
use Rattle.core_facts.specs.Facts.{note_all, shape_fact}
use Rattle.core_facts.specs.constants.Called.{shape_of_type}
use Rattle.counted_marks.specs.Bases.{note_bases}
use Rattle.fact_table.specs.Table.{facts_of}
use Rattle.reuse_candidates.specs.Tables.{bases_of}
use Rattle.reuse_candidates.proofs.scope.Scope.enter_function.Given as goal

abbrev pub invariant-loop-x : goal.invariant-loop-x
invariant-loop-x l = record {
  facts :
      note_all (facts_of l.self.facts) (map (λ (p : Var × ArrayType). p.0) (drop l.x-index l.params)) (map (λ (p : Var × ArrayType). shape_fact (shape_of_type p.1)) (drop l.x-index l.params))
      ≡ note_all (facts_of l.fn.self.facts) (map (λ (p : Var × ArrayType). p.0) l.params) (map (λ (p : Var × ArrayType). shape_fact (shape_of_type p.1)) l.params);
  bases :
      note_bases (bases_of l.self.bases) (map (λ (p : Var × ArrayType). p.0) (drop l.x-index l.params)) (map (λ (p : Var × ArrayType). Some p.1.base) (drop l.x-index l.params))
      ≡ note_bases (bases_of l.fn.self.bases) (map (λ (p : Var × ArrayType). p.0) l.params) (map (λ (p : Var × ArrayType). Some p.1.base) l.params);
}

-- What is known of parameters.
use Rattle.std.proofs.Common.{List, map}
use Rattle.sac_base.specs.declared.types.ArrayType.{ArrayType}
use Rattle.core_ir.specs.declared.tree.Var.{Var}
use Rattle.core_facts.specs.Facts.{Fact, shape_fact}
use Rattle.core_facts.specs.constants.Called.{shape_of_type}

abbrev pub types_facts : List (Var × ArrayType) → List Fact
types_facts ps = map (λ (ty : ArrayType). shape_fact (shape_of_type ty)) (map (λ (p : Var × ArrayType). p.1) ps)

use Rattle.std.proofs.Common.{◌≡◌, map, take}
use Rattle.sac_base.specs.declared.types.ArrayType.{ArrayType}
use Rattle.core_facts.specs.Facts.{shape_fact}
use Rattle.core_facts.specs.constants.Called.{shape_of_type}
use Rattle.fact_table.specs.Table.{fact_of}
use Rattle.known_calls.proofs.calls.known_types.Given as goal

abbrev pub invariant-loop-ty : goal.invariant-loop-ty
invariant-loop-ty l = map fact_of l.known.items ≡ map (λ (ty : ArrayType). shape_fact (shape_of_type ty)) (take l.ty-index l.types)

use Rattle.std.proofs.Common.{◌≡◌, ◌++◌, drop, map, Some}
use Rattle.sac_base.specs.declared.types.ArrayType.{ArrayType}
use Rattle.sac_ast.specs.Bases.{known_bases}
use Rattle.check_rules.proofs.calls.bases_of_types.Given as goal

abbrev pub invariant-loop-ty : goal.invariant-loop-ty
invariant-loop-ty l =
    l.bases.items ++ known_bases (Some (map (λ (ty : ArrayType). ty.base) (drop l.ty-index l.types)))
    ≡ known_bases (Some (map (λ (ty : ArrayType). ty.base) l.types))

-- The names and the types of parameters.
use Rattle.std.specs.Prelude.{List, map}
use Rattle.sac_base.specs.declared.name.Name.{Name}
use Rattle.sac_base.specs.declared.types.ArrayType.{ArrayType}
use Rattle.sac_ast.specs.declared.Param.{Param}

abbrev pub names_of_params : List Param → List Name
names_of_params params = map (λ (p : Param). p.name) params

abbrev pub types_of_params : List Param → List ArrayType
types_of_params params = map (λ (p : Param). p.ty) params

-- The choice of an instance, in the parts in which the code makes it.
use Rattle.std.specs.Prelude.{ℕ, Bool, true, false, not, ◌&&◌, ◌||◌, List, Option, Some, None, map}
use Rattle.std.specs.List.{list_all}
use Rattle.sac_base.specs.declared.types.ArrayType.{ArrayType}
use Rattle.sac_base.specs.Arrays.{ArrayValue}
use Rattle.sac_base.specs.Types.{all_have, all_below}
use Rattle.core_ir.specs.declared.tree.Var.{Var}
use Rattle.core_ir.specs.Terms.{FunTerm}
use Rattle.core_ir.specs.Outcome.{Instance, instances, is_least, param_types, least_among}
use Rattle.counted_code.specs.declared.tree.CodeFun.{CodeFun}
use Rattle.counted_code.specs.Terms.{core_of_fun}
use Rattle.counted_code.specs.View.{code_fun_term}

abbrev pub types_of : List (Var × ArrayType) → List ArrayType
types_of params = map (λ (p : Var × ArrayType). p.1) params

-- the functions of the core
abbrev pub functions_of : List CodeFun → List FunTerm
functions_of fs = map core_of_fun (map code_fun_term fs)

-- the place of the first least instance among those at the places
abbrev pub least_in : List FunTerm → List ℕ → List ArrayValue → Option ℕ
least_in fs places args = least_among (instances fs places) args (instances fs places)

-- an instance does not contain the arguments, or these types are below its types
abbrev pub is_beside : List ArrayType → List ArrayValue → List ArrayType → Bool
is_beside types args others = not (all_have others args) || all_below types others

-- these types contain the arguments, and are below those of each instance that does
abbrev pub are_least : List Instance → List ArrayValue → List ArrayType → Bool
are_least all args types = all_have types args && list_all (λ (j : Instance). is_beside types args j.types) all

-- whether the function at a place, if there is one, contains the arguments, and its types are below those of every other instance that does
abbrev pub least_at : List Instance → List ArrayValue → ℕ → Option FunTerm → Bool
least_at all args place None = false
least_at all args place (Some f) = is_least all args (record { place = place; types = param_types f })

abbrev pub beside_at : List ArrayType → List ArrayValue → Option FunTerm → Bool
beside_at types args None = true
beside_at types args (Some f) = is_beside types args (param_types f)

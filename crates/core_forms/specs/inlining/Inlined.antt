-- The body of a function in the place of a call.
use Rattle.std.specs.Prelude.{◌≡◌, ℕ, ◌≤◌, if◌then◌else◌, List, [], ◌∷◌, map, length}
use Rattle.sac_base.specs.declared.faults.FaultKind.TheVariants.{F7}
use Rattle.sac_base.specs.declared.site.Site.{Site}
use Rattle.sac_base.specs.declared.types.ArrayType.{ArrayType}
use Rattle.sac_base.specs.Arrays.{ArrayValue}
use Rattle.sac_base.specs.Outcomes.{fault}
use Rattle.sac_base.specs.Types.{all_have}
use Rattle.core_ir.specs.declared.tree.Var.{Var}
use Rattle.core_ir.specs.Meaning.{Answer, CallMeaning}
use Rattle.core_ir.specs.Outcome.{param_types, param_vars, function_value}
use Rattle.core_ir.specs.Scopes.{Scoped}
use Rattle.core_ir.specs.Terms.{BlockTerm, LetTerm, FunTerm, Gives, Bind, Plain, Check, chain}
use Rattle.core_subst.specs.Names.{above, above_all}
use Rattle.core_subst.specs.copy.Mapped.{raised, mapped}

-- the bindings of a block, and its results
abbrev pub bindings : BlockTerm → List LetTerm
bindings (Gives xs) = []
bindings (Bind xs s r b) = record { targets = xs; site = s; right = r } ∷ bindings b

abbrev pub results : BlockTerm → List Var
results (Gives xs) = xs
results (Bind xs s r b) = results b

-- each target is the source beside it, if that is in the type
abbrev pub checks : Site → List Var → List ArrayType → List Var → List LetTerm
checks s (t ∷ ts) (ty ∷ tys) (z ∷ zs) = record { targets = t ∷ []; site = s; right = Plain (Check z ty) } ∷ checks s ts tys zs
checks s _ _ _ = []

-- checks of the arguments at the call's site, the body with raised variables, and checks of the results at the function's end
abbrev pub inlined : ℕ → FunTerm → List Var → Site → List Var → BlockTerm → BlockTerm
inlined by f ts s xs rest =
    let body = mapped (raised by) f.body in
    chain (checks s (map (raised by) (param_vars f)) (param_types f) xs) (chain (bindings body) (chain (checks f.ends ts f.results (results body)) rest))

-- the function's body can stand in the place of a call: counts agree, its variables are scoped, and raised ones are new
pub record CanInline (by : ℕ) (f : FunTerm) (ts xs : List Var) (rest : BlockTerm) : Type 0 where
  pub scoped : Scoped (param_vars f) f.body
  pub takes : length xs ≡ length f.params
  pub gives : length ts ≡ length f.results
  pub ends : length (results f.body) ≡ length f.results
  pub targets : above_all ts ≤ by
  pub sources : above_all xs ≤ by
  pub behind : above rest ≤ by

-- what a function gives for arguments: a fault of the call where they are not in its types
abbrev pub instance_value : ℕ → CallMeaning → FunTerm → List ArrayValue → Site → Answer
instance_value turns calls f args s = if all_have (param_types f) args then function_value turns calls f args else fault F7 s

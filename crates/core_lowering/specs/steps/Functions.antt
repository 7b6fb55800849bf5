-- What a function becomes, binding after binding.
use Rattle.std.specs.Prelude.{ℕ, suc, List, [], ◌∷◌, ◌++◌, length, Option}
use Rattle.sac_base.specs.declared.base.Base.{Base}
use Rattle.sac_base.specs.declared.name.Name.{Name}
use Rattle.sac_base.specs.declared.types.ArrayType.{ArrayType}
use Rattle.sac_ast.specs.declared.Param.{Param}
use Rattle.sac_ast.specs.Tree.{Expr, FunctionTree}
use Rattle.core_ir.specs.declared.tree.Var.{Var}
use Rattle.core_ir.specs.Terms.{FunTerm, Gives, chain}
use Rattle.source_meaning.specs.Calls.{param_names}
use Rattle.core_lowering.specs.Lowering.{numbered, pushed, lowered_block, lowered_all}
use Rattle.core_lowering.specs.Programs.{lowered_params}
use Rattle.core_lowering.specs.steps.Looks.{Look, unbound, with_var}
use Rattle.core_lowering.specs.steps.Building.{Built, make_block, make_all}

-- parameters that were bound to new variables
pub record MadeParams : Type 0 where
  pub state : Built
  pub params : List (Var × ArrayType)
  pub scope : Look

abbrev pub params_declared : List Param → Look → Built → MadeParams
params_declared [] look s = record { state = s; params = []; scope = look }
params_declared (p ∷ ps) look s =
    let d = params_declared ps (with_var p.name (numbered s.next) look) (record { lets = s.lets; next = suc s.next }) in
    record { state = d.state; params = (numbered s.next, p.ty) ∷ d.params; scope = d.scope }

module _ (group_of : Name → ℕ) (base_of : Expr → Option Base) (base_of_name : Name → Base) where
  -- what the lowering says, where names have these groups, and phrases and names these bases
  abbrev pub function_by : FunctionTree → FunTerm
  function_by f =
      let b = lowered_block group_of base_of base_of_name f.body (pushed (param_names f) 0 []) (length (param_names f)) in
      let v = lowered_all group_of base_of base_of_name f.values b.scope b.next in
      record {
        name = f.name;
        site = f.site;
        params = lowered_params 0 f.params;
        results = f.results;
        is_inline = f.inline;
        body = chain (b.lets ++ v.lets) (Gives v.results);
        ends = f.ends;
      }

  -- its parameters, then its block, then the values that it returns
  abbrev pub function_made : FunctionTree → FunTerm
  function_made f =
      let p = params_declared f.params unbound (record { lets = []; next = 0 }) in
      let b = make_block group_of base_of base_of_name f.body p.scope p.state in
      let v = make_all group_of base_of base_of_name f.values b.scope b.state in
      record {
        name = f.name;
        site = f.site;
        params = p.params;
        results = f.results;
        is_inline = f.inline;
        body = chain v.state.lets (Gives v.results);
        ends = f.ends;
      }

-- How a program becomes a core, and which programs do.
use Rattle.std.specs.Prelude.{◌≡◌, ℕ, suc, List, [], ◌∷◌, ◌++◌, false, if◌then◌else◌, Option, Some, None, map, length, position, is_some, IsTrue}
use Rattle.std.specs.Prelude.{bytes_eq, unwrap_or}
use Rattle.sac_base.specs.declared.base.Base.{Base}
use Rattle.sac_base.specs.declared.name.Name.{Name}
use Rattle.sac_base.specs.declared.types.ArrayType.{ArrayType}
use Rattle.sac_base.specs.Arrays.{ArrayValue}
use Rattle.sac_base.specs.declared.faults.Caps.{Caps}
use Rattle.sac_ast.specs.declared.Param.{Param}
use Rattle.sac_ast.specs.Tree.{FunctionTree, ProgramTree}
use Rattle.sac_ast.specs.Bases.{base_in, known_in, base_of_name, first_named}
use Rattle.core_ir.specs.declared.tree.Var.{Var}
use Rattle.core_ir.specs.Terms.{FunTerm, CoreTerm, Gives, chain}
use Rattle.core_ir.specs.Outcome as core
use Rattle.source_meaning.specs.Meaning.{or_int}
use Rattle.source_meaning.specs.Calls.{param_names, is_main}
use Rattle.source_meaning.specs.Calls as source
use Rattle.core_lowering.specs.Lowering.{numbered, pushed, once, lowered_block, lowered_all}
use Rattle.core_lowering.specs.Definite.{Names, with_names, bound_behind, BlockDefinite, AreDefinite}

-- ---- groups: the instances of each name, in the order of the first ones

abbrev pub function_names : List FunctionTree → List Name
function_names fs = once [] (map (λ (f : FunctionTree). f.name) fs)

-- the place of a name in a list, or the list's length
abbrev pub place_in : List Name → Name → ℕ
place_in [] x = 0
place_in (y ∷ ys) x = if bytes_eq x y then 0 else suc (place_in ys x)

abbrev pub group_of : List FunctionTree → Name → ℕ
group_of fs x = place_in (function_names fs) x

-- the places of a name's instances, where the first function has this place
abbrev pub places_of : Name → ℕ → List FunctionTree → List ℕ
places_of x i [] = []
places_of x i (f ∷ fs) = if bytes_eq f.name x then i ∷ places_of x (suc i) fs else places_of x (suc i) fs

abbrev pub groups_of : List FunctionTree → List (List ℕ)
groups_of fs = map (λ x. places_of x 0 fs) (function_names fs)

-- ---- functions

abbrev pub lowered_params : ℕ → List Param → List (Var × ArrayType)
lowered_params n [] = []
lowered_params n (p ∷ ps) = (numbered n, p.ty) ∷ lowered_params (suc n) ps

-- the base of a name in a function
abbrev pub name_base : List FunctionTree → FunctionTree → Name → Base
name_base fs f x = or_int (base_of_name (known_in fs f) x)

abbrev pub lowered_function : List FunctionTree → FunctionTree → FunTerm
lowered_function fs f =
    let b = lowered_block (group_of fs) (base_in fs f) (name_base fs f) f.body (pushed (param_names f) 0 []) (length (param_names f)) in
    let v = lowered_all (group_of fs) (base_in fs f) (name_base fs f) f.values b.scope b.next in
    record {
      name = f.name;
      site = f.site;
      params = lowered_params 0 f.params;
      results = f.results;
      is_inline = f.inline;
      body = chain (b.lets ++ v.lets) (Gives v.results);
      ends = f.ends;
    }

-- ---- programs

abbrev pub lowered_program : ProgramTree → CoreTerm
lowered_program p = record {
  functions = map (lowered_function p.functions) p.functions;
  groups = groups_of p.functions;
  main = unwrap_or (position is_main p.functions) 0;
}

abbrev pub no_names : Names
no_names x = false

-- the number of results of a name's first instance
abbrev pub count_in : Option FunctionTree → ℕ
count_in None = 0
count_in (Some f) = length f.results

abbrev pub result_count : List FunctionTree → Name → ℕ
result_count fs x = count_in (first_named fs x)

-- uses are of variables that are bound, and calls have as many targets as results
pub record IsDefiniteFunction (fs : List FunctionTree) (f : FunctionTree) : Type 0 where
  pub body : BlockDefinite (result_count fs) f.body (with_names (param_names f) no_names)
  pub values : AreDefinite (result_count fs) f.values (bound_behind f.body (with_names (param_names f) no_names))
  -- all instances of a name have the same number of results
  pub count : length f.results ≡ result_count fs f.name

abbrev pub AreDefiniteFunctions : List FunctionTree → List FunctionTree → Type 0
AreDefiniteFunctions fs [] = Unit {0}
AreDefiniteFunctions fs (g ∷ gs) = IsDefiniteFunction fs g × AreDefiniteFunctions fs gs

pub record IsDefiniteProgram (p : ProgramTree) : Type 0 where
  pub functions : AreDefiniteFunctions p.functions p.functions
  pub main : IsTrue (is_some (position is_main p.functions))

-- on all arguments and under all limits
abbrev pub HasOutcomeOf : ProgramTree → CoreTerm → Type 0
HasOutcomeOf p c = (args : List ArrayValue) (caps : Caps) → core.outcome c args caps ≡ source.outcome p args caps

-- a call of a name takes the instance at the same place
abbrev pub TakesTheSameInstances : ProgramTree → Name → List ArrayValue → Type 0
TakesTheSameInstances p name args =
    core.chosen (lowered_program p) (group_of p.functions name) args ≡ source.chosen p.functions name args

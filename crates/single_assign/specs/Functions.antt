-- What is made of a function in a context.
use Rattle.std.specs.Prelude.{ℕ, List, [], ◌∷◌, ◌++◌, map, bytes_eq, if◌then◌else◌, position, unwrap_or}
use Rattle.sac_base.specs.declared.name.Name.{Name}
use Rattle.sac_base.specs.declared.types.ArrayType.{ArrayType}
use Rattle.sac_ast.specs.Bases.{base_in}
use Rattle.sac_ast.specs.Tree.{FunctionTree, ProgramTree}
use Rattle.core_ir.specs.declared.tree.Var.{Var}
use Rattle.core_ir.specs.Terms.{BlockTerm, CoreTerm, FunTerm, Gives, chain}
use Rattle.core_ir.specs.View.{block_term}
use Rattle.source_meaning.specs.Calls.{is_main}
use Rattle.core_lowering.specs.Programs.{name_base, place_in, places_of}
use Rattle.core_lowering.specs.steps.Looks.{Look}
use Rattle.core_lowering.specs.steps.Building.{Built}
use Rattle.core_lowering.specs.steps.Functions.{MadeParams, function_by, params_declared}
use Rattle.single_assign.specs.declared.context.Context.{Context}
use Rattle.single_assign.specs.declared.program.Parts.{Parts}
use Rattle.single_assign.specs.Views.{group_in, base_of_in, name_base_in, make_all_in, make_block_in}

abbrev pub params_made : Built → List (Var × ArrayType) → Look → MadeParams
params_made s ps scope = record { state = s; params = ps; scope = scope }

abbrev pub function_in : Context → FunctionTree → FunTerm
function_in cx = function_by (group_in cx) (base_of_in cx) (name_base_in cx)

abbrev pub function_of : (Name → ℕ) → List FunctionTree → FunctionTree → FunTerm
function_of group_of fs f = function_by group_of (base_in fs f) (name_base fs f) f

abbrev pub functions_by : (Name → ℕ) → List FunctionTree → List FunctionTree → List FunTerm
functions_by group_of fs gs = map (function_of group_of fs) gs

-- groups of places, with one more place in the group of a name
abbrev pub with_place : Name → ℕ → List Name → List (List ℕ) → List (List ℕ)
with_place x k [] groups = []
with_place x k (y ∷ names) [] = []
with_place x k (y ∷ names) (g ∷ groups) = (if bytes_eq x y then g ++ k ∷ [] else g) ∷ with_place x k names groups

-- a function with these parameters and this body
abbrev pub with_body : FunctionTree → List (Var × ArrayType) → BlockTerm → FunTerm
with_body f ps body = record {
  name = f.name;
  site = f.site;
  params = ps;
  results = f.results;
  is_inline = f.inline;
  body = body;
  ends = f.ends;
}

abbrev pub with_parts : FunctionTree → Parts → FunTerm
with_parts f p = with_body f p.params.items (block_term p.body)

-- a function whose names have these variables in front of it
abbrev pub function_from : Context → FunctionTree → Look → FunTerm
function_from cx f start =
    let p = params_declared f.params start (record { lets = []; next = 0 }) in
    let b = make_block_in cx f.body p.scope p.state in
    let v = make_all_in cx f.values b.scope b.state in
    with_body f p.params (chain v.state.lets (Gives v.results))

-- a program whose functions are called by these names
abbrev pub program_named : List Name → ProgramTree → CoreTerm
program_named names p = record {
  functions = functions_by (place_in names) p.functions p.functions;
  groups = map (λ x. places_of x 0 p.functions) names;
  main = unwrap_or (position is_main p.functions) 0;
}

-- What a function becomes is what its parameters, its block and its values make.
use Rattle.std.proofs.Common.{◌≡◌, ℕ, suc, ◌+◌, List, [], ◌∷◌, length, map, Option, ◌∙◌, arith}
use Rattle.sac_base.specs.declared.base.Base.{Base}
use Rattle.sac_base.specs.declared.name.Name.{Name}
use Rattle.sac_ast.specs.declared.Param.{Param}
use Rattle.sac_ast.specs.Tree.{Expr, FunctionTree}
use Rattle.sac_ast.specs.Bases.{base_in}
use Rattle.core_ir.specs.Terms.{FunTerm, Gives, chain}
use Rattle.source_meaning.specs.Calls.{param_names}
use Rattle.core_lowering.specs.Lowering.{Scope, var_in, numbered, pushed, lowered_block}
use Rattle.core_lowering.specs.Programs.{group_of, name_base, lowered_params, lowered_function}
use Rattle.core_lowering.specs.steps.Building.{Built, MadeList, make_block, make_all}
use Rattle.core_lowering.specs.steps.Behind.{anew}
use Rattle.core_lowering.specs.steps.Functions.{MadeParams, params_declared, function_by, function_made}
use Rattle.core_lowering.proofs.steps.Accumulated.{made_block, made_all}

abbrev pub names_of : List Param → List Name
names_of ps = map (λ (p : Param). p.name) ps

-- parameters that were bound to the variables from a number on
abbrev pub params_taken : List Param → Scope → Built → MadeParams
params_taken ps sc s = record {
  state = record { lets = s.lets; next = s.next + length (names_of ps) };
  params = lowered_params s.next ps;
  scope = var_in (pushed (names_of ps) s.next sc);
}

pub params_are : (ps : List Param) (sc : Scope) (s : Built) → params_declared ps (var_in sc) s ≡ params_taken ps sc s
params_are [] sc s =
    let e : s.next ≡ s.next + 0 = omega arith in
    λ i. record { state = record { lets = s.lets; next = e i }; params = []; scope = var_in sc }
params_are (p ∷ ps) sc s =
    let n = s.next in
    let inner = (p.name, numbered n) ∷ sc in
    let e : suc n + length (names_of ps) ≡ n + suc (length (names_of ps)) = omega arith in
    (λ i. let d = params_are ps inner (record { lets = s.lets; next = suc n }) i in record { state = d.state; params = (numbered n, p.ty) ∷ d.params; scope = d.scope })
    ∙ (λ i. record { state = record { lets = s.lets; next = e i }; params = (numbered n, p.ty) ∷ lowered_params (suc n) ps; scope = var_in (pushed (names_of ps) (suc n) inner) })

module _ (group_of_name : Name → ℕ) (base_of : Expr → Option Base) (base_of_name : Name → Base) where
  pub function_is : (f : FunctionTree) → function_made group_of_name base_of base_of_name f ≡ function_by group_of_name base_of base_of_name f
  function_is f =
      let xs = param_names f in
      let n = length xs in
      let sc = pushed xs 0 [] in
      let B = lowered_block group_of_name base_of base_of_name f.body sc n in
      let ended : MadeParams → MadeList → FunTerm = λ p v. record {
        name = f.name;
        site = f.site;
        params = p.params;
        results = f.results;
        is_inline = f.inline;
        body = chain v.state.lets (Gives v.results);
        ends = f.ends;
      } in
      let zero_more : 0 + n ≡ n = omega arith in
      let from : ℕ → MadeParams = λ m. record { state = anew m; params = lowered_params 0 f.params; scope = var_in sc } in
      let go : MadeParams → FunTerm = λ q. let b = make_block group_of_name base_of base_of_name f.body q.scope q.state in ended q (make_all group_of_name base_of base_of_name f.values b.scope b.state) in
      (λ i. go (params_are f.params [] (anew 0) i))
      ∙ (λ i. go (from (zero_more i)))
      ∙ (λ i. let b = made_block group_of_name base_of base_of_name f.body sc (anew n) i in ended (from n) (make_all group_of_name base_of base_of_name f.values b.scope b.state))
      ∙ (λ i. ended (from n) (made_all group_of_name base_of base_of_name f.values B.scope (record { lets = B.lets; next = B.next }) i))

-- a program's function
pub function_lowered : (fs : List FunctionTree) (f : FunctionTree) → function_made (group_of fs) (base_in fs f) (name_base fs f) f ≡ lowered_function fs f
function_lowered fs f = function_is (group_of fs) (base_in fs f) (name_base fs f) f

-- When the functions of a program stand together as the core asks.
use Rattle.std.specs.Prelude.{◌≡◌, ℕ, ◌<◌, ◌^◌, List, true, false, map, length, Some, slice_get, position, bytes_eq}
use Rattle.sac_base.specs.declared.name.Name.{Name}
use Rattle.sac_base.specs.Types.{compatible}
use Rattle.sac_ast.specs.Tree.{Expr, Exprs, no_exprs, expr_and, MaybeExpr, left_out, given, Stmt, Block, no_stmts, stmt_and, BoundTree, dot, at, Gen}
use Rattle.sac_ast.specs.Tree.{gen, Gens, no_gens, gen_and, OperationTree, FunctionTree, ProgramTree, number, truth, variable, choice, call, builtin}
use Rattle.sac_ast.specs.Tree.{with_loop, assign, if_else, while_do, do_while, genarray, modarray}
use Rattle.sac_ast.specs.Tree
use Rattle.sac_ast.specs.Bases.{bases_of_params}
use Rattle.core_ir.specs.WellFormed.{bases}
use Rattle.source_meaning.specs.Calls.{param_types, is_main}
use Rattle.core_lowering.specs.Lowering.{has_name}

-- what holds of the name of each call in a phrase
module _ (P : Name → Type 0) where
  abbrev mutual
    pub CallsIn : Expr → Type 0
    CallsIn (number z site) = Unit {0}
    CallsIn (truth b site) = Unit {0}
    CallsIn (variable name site) = Unit {0}
    CallsIn (Tree.literal es site) = CallsInAll es
    CallsIn (Tree.unary op e site) = CallsIn e
    CallsIn (Tree.binary op e f site) = CallsIn e × CallsIn f
    CallsIn (choice c e f site) = CallsIn c × CallsIn e × CallsIn f
    CallsIn (Tree.select e i site) = CallsIn e × CallsIn i
    CallsIn (call name es site) = P name × CallsInAll es
    CallsIn (builtin b es site) = CallsInAll es
    CallsIn (with_loop gs op site) = CallsInGens gs × CallsInOperation op

    pub CallsInAll : Exprs → Type 0
    CallsInAll no_exprs = Unit {0}
    CallsInAll (expr_and e es) = CallsIn e × CallsInAll es

    pub CallsInMaybe : MaybeExpr → Type 0
    CallsInMaybe left_out = Unit {0}
    CallsInMaybe (given e) = CallsIn e

    pub CallsInBound : BoundTree → Type 0
    CallsInBound (dot site) = Unit {0}
    CallsInBound (at e) = CallsIn e

    pub CallsInGen : Gen → Type 0
    CallsInGen (gen lower lower_closed index upper upper_closed step width body cell site) =
        CallsInBound lower × CallsInBound upper × CallsInMaybe step × CallsInMaybe width × CallsInBlock body × CallsIn cell

    pub CallsInGens : Gens → Type 0
    CallsInGens no_gens = Unit {0}
    CallsInGens (gen_and g gs) = CallsInGen g × CallsInGens gs

    pub CallsInOperation : OperationTree → Type 0
    CallsInOperation (genarray shape default site) = CallsIn shape × CallsInMaybe default
    CallsInOperation (modarray array site) = CallsIn array
    CallsInOperation (Tree.fold op neutral site) = CallsIn neutral

    pub CallsInStmt : Stmt → Type 0
    CallsInStmt (assign targets e) = CallsIn e
    CallsInStmt (Tree.replace target bracket index e) = CallsIn index × CallsIn e
    CallsInStmt (if_else c first second site) = CallsIn c × CallsInBlock first × CallsInBlock second
    CallsInStmt (while_do c body site) = CallsIn c × CallsInBlock body
    CallsInStmt (do_while body c site test) = CallsInBlock body × CallsIn c

    pub CallsInBlock : Block → Type 0
    CallsInBlock no_stmts = Unit {0}
    CallsInBlock (stmt_and s rest) = CallsInStmt s × CallsInBlock rest

abbrev pub CallsInFunction : (Name → Type 0) → FunctionTree → Type 0
CallsInFunction P f = CallsInBlock P f.body × CallsInAll P f.values

-- the names of functions
abbrev pub all_names : List FunctionTree → List Name
all_names fs = map (λ (f : FunctionTree). f.name) fs

-- two functions may be instances of one name
pub record MayStandTogether (f g : FunctionTree) : Type 0 where
  pub params : length f.params ≡ length g.params
  pub results : length f.results ≡ length g.results
  pub inlines : f.inline ≡ g.inline
  pub types : compatible (param_types f) (param_types g) ≡ true
  pub bases_too : bases_of_params f ≡ bases_of_params g → bases f.results ≡ bases g.results

-- each inline instance of the name stands before a place
abbrev pub StandsBefore : List FunctionTree → ℕ → Name → Type 0
StandsBefore fs i x = (j : ℕ) (h : FunctionTree) → slice_get fs j ≡ Some h → bytes_eq h.name x ≡ true → h.inline ≡ true → j < i

pub record IsStanding (p : ProgramTree) : Type 0 where
  pub few : length p.functions < 2 ^ 32
  -- `main` is not inline
  pub main : (place : ℕ) (f : FunctionTree) → position is_main p.functions ≡ Some place → slice_get p.functions place ≡ Some f → f.inline ≡ false
  -- a name that is called has an instance
  pub called : (i : ℕ) (f : FunctionTree) → slice_get p.functions i ≡ Some f → CallsInFunction (λ x. has_name (all_names p.functions) x ≡ true) f
  -- an inline function calls inline functions that stand before it
  pub backward : (i : ℕ) (f : FunctionTree) → slice_get p.functions i ≡ Some f → f.inline ≡ true → CallsInFunction (StandsBefore p.functions i) f
  pub together : (i j : ℕ) (f g : FunctionTree) → i < j → slice_get p.functions i ≡ Some f
      → slice_get p.functions j ≡ Some g → f.name ≡ g.name → MayStandTogether f g

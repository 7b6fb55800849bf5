-- How deep trees and tokens are nested, and the limits on it.
use Rattle.std.specs.Prelude.{ℕ, ◌≡◌, ◌+◌, ◌-◌, ◌≤◌, max, min, Bool, ◌||◌, List, [], ◌∷◌, ◌++◌, if◌then◌else◌, codes}
use Rattle.std.specs.List.{AllByRecursion}
use Rattle.std.specs.Str.{bytes_eq}
use Rattle.sac_ast.specs.Texts.{Lexeme}
use Rattle.sac_ast.specs.Tree
use Rattle.sac_ast.specs.Tree.{Expr, Exprs, no_exprs, expr_and, MaybeExpr, left_out, given, Stmt, Block, no_stmts, stmt_and, BoundTree, Gen, gen}
use Rattle.sac_ast.specs.Tree.{Gens, no_gens, gen_and, OperationTree, FunctionTree, ProgramTree}
use Rattle.sac_ast.specs.Grammar.{IsProgram}

-- a leaf has the height 1, and every other node the greatest height of its children plus 1; a list has the greatest height in it
abbrev mutual
  pub height : Expr → ℕ
  height (Tree.number n s) = 1
  height (Tree.truth b s) = 1
  height (Tree.variable x s) = 1
  height (Tree.literal es s) = 1 + heights es
  height (Tree.unary o e s) = 1 + height e
  height (Tree.binary o a b s) = 1 + max (height a) (height b)
  height (Tree.choice c a b s) = 1 + max (height c) (max (height a) (height b))
  height (Tree.select a i s) = 1 + max (height a) (height i)
  height (Tree.call x es s) = 1 + heights es
  height (Tree.builtin b es s) = 1 + heights es
  height (Tree.with_loop gs o s) = 1 + max (gens_height gs) (operation_height o)

  pub heights : Exprs → ℕ
  heights no_exprs = 0
  heights (expr_and e es) = max (height e) (heights es)

  pub maybe_height : MaybeExpr → ℕ
  maybe_height left_out = 0
  maybe_height (given e) = height e

  pub stmt_height : Stmt → ℕ
  stmt_height (Tree.assign xs e) = 1 + height e
  stmt_height (Tree.replace x s i e) = 1 + max (height i) (height e)
  stmt_height (Tree.if_else c a b s) = 1 + max (height c) (max (block_height a) (block_height b))
  stmt_height (Tree.while_do c b s) = 1 + max (height c) (block_height b)
  stmt_height (Tree.do_while b c s u) = 1 + max (block_height b) (height c)

  pub block_height : Block → ℕ
  block_height no_stmts = 0
  block_height (stmt_and s ss) = max (stmt_height s) (block_height ss)

  pub bound_height : BoundTree → ℕ
  bound_height (Tree.dot s) = 0
  bound_height (Tree.at e) = height e

  pub gen_height : Gen → ℕ
  gen_height (gen l lc i u uc st w b e s) = 1
      + max (bound_height l) (max (bound_height u) (max (maybe_height st) (max (maybe_height w) (max (block_height b) (height e)))))

  pub gens_height : Gens → ℕ
  gens_height no_gens = 0
  gens_height (gen_and g gs) = max (gen_height g) (gens_height gs)

  pub operation_height : OperationTree → ℕ
  operation_height (Tree.genarray e d s) = 1 + max (height e) (maybe_height d)
  operation_height (Tree.modarray e s) = 1 + height e
  operation_height (Tree.fold o e s) = 1 + height e

abbrev pub function_height : FunctionTree → ℕ
function_height f = 1 + max (block_height f.body) (heights f.values)

-- the greatest height of a function
abbrev pub functions_height : List FunctionTree → ℕ
functions_height [] = 0
functions_height (f ∷ fs) = max (function_height f) (functions_height fs)

abbrev pub program_height : ProgramTree → ℕ
program_height p = functions_height p.functions

-- a number that 64 bits hold, or the greatest of them
abbrev pub capped : ℕ → ℕ
capped n = min n 18446744073709551615

-- the height of each function is at most 100
abbrev pub IsLow : ProgramTree → Type 0
IsLow p = AllByRecursion (λ (f : FunctionTree). function_height f ≤ 100) p.functions

abbrev pub opens : List ℕ → Bool
opens text = bytes_eq (codes "(") text || (bytes_eq (codes "[") text || bytes_eq (codes "{") text)

abbrev pub closes : List ℕ → Bool
closes text = bytes_eq (codes ")") text || (bytes_eq (codes "]") text || bytes_eq (codes "}") text)

-- how many brackets are open behind the tokens, where so many are before them
abbrev pub open_behind : ℕ → List Lexeme → ℕ
open_behind n [] = n
open_behind n (t ∷ ts) = open_behind (if opens t.text then n + 1 else (if closes t.text then n - 1 else n)) ts

-- at no token are more than 200 brackets open
abbrev pub IsShallow : List Lexeme → Type 0
IsShallow ts = (u r : List Lexeme) → ts ≡ u ++ r → open_behind 0 u ≤ 200

-- the tree of the tokens, within the limits
abbrev pub IsTreeOf : List Lexeme → ProgramTree → Type 0
IsTreeOf ts p = IsProgram ts p × IsShallow ts × IsLow p

-- Trees that are equal aside from sites have one height.
use Rattle.std.proofs.Common.{◌≡◌, ◌≤◌, ◌+◌, max, List, [], ◌∷◌, map, refl, sym, ap, subst}
use Rattle.std.specs.List.{AllByRecursion}
use Rattle.sac_ast.specs.Tree as tree
use Rattle.sac_ast.specs.Tree.{Expr, Exprs, no_exprs, expr_and, MaybeExpr, left_out, given, Stmt, Block, no_stmts, stmt_and, BoundTree, Gen, gen, Gens, no_gens, gen_and, OperationTree, FunctionTree, ProgramTree}
use Rattle.sac_ast.specs.Heights.{height, heights, maybe_height, stmt_height, block_height, bound_height, gen_height, gens_height, operation_height, function_height, IsLow}
use Rattle.core_source_laws.specs.printing.Bare.{bare, bare_list, bare_maybe, bare_stmt, bare_block, bare_bound, bare_gen, bare_gens, bare_operation, bare_function, bare_program}

mutual
  expr : (e : Expr) → height (bare e) ≡ height e
  expr (tree.number n s) = refl
  expr (tree.truth b s) = refl
  expr (tree.variable x s) = refl
  expr (tree.literal es s) = ap (λ n. 1 + n) (list es)
  expr (tree.unary o e s) = ap (λ n. 1 + n) (expr e)
  expr (tree.binary o a b s) = λ i. 1 + max (expr a i) (expr b i)
  expr (tree.choice c a b s) = λ i. 1 + max (expr c i) (max (expr a i) (expr b i))
  expr (tree.select a x s) = λ i. 1 + max (expr a i) (expr x i)
  expr (tree.call x es s) = ap (λ n. 1 + n) (list es)
  expr (tree.builtin b es s) = ap (λ n. 1 + n) (list es)
  expr (tree.with_loop gs o s) = λ i. 1 + max (generators gs i) (operation o i)

  list : (es : Exprs) → heights (bare_list es) ≡ heights es
  list no_exprs = refl
  list (expr_and e es) = λ i. max (expr e i) (list es i)

  maybe : (m : MaybeExpr) → maybe_height (bare_maybe m) ≡ maybe_height m
  maybe left_out = refl
  maybe (given e) = expr e

  statement : (s : Stmt) → stmt_height (bare_stmt s) ≡ stmt_height s
  statement (tree.assign ts e) = ap (λ n. 1 + n) (expr e)
  statement (tree.replace t s x e) = λ i. 1 + max (expr x i) (expr e i)
  statement (tree.if_else c a b s) = λ i. 1 + max (expr c i) (max (block a i) (block b i))
  statement (tree.while_do c b s) = λ i. 1 + max (expr c i) (block b i)
  statement (tree.do_while b c s u) = λ i. 1 + max (block b i) (expr c i)

  block : (b : Block) → block_height (bare_block b) ≡ block_height b
  block no_stmts = refl
  block (stmt_and s ss) = λ i. max (statement s i) (block ss i)

  bound : (b : BoundTree) → bound_height (bare_bound b) ≡ bound_height b
  bound (tree.dot s) = refl
  bound (tree.at e) = expr e

  generator : (g : Gen) → gen_height (bare_gen g) ≡ gen_height g
  generator (gen l lc x u uc s w b e site) = λ i. 1 + max (bound l i) (max (bound u i) (max (maybe s i) (max (maybe w i) (max (block b i) (expr e i)))))

  generators : (gs : Gens) → gens_height (bare_gens gs) ≡ gens_height gs
  generators no_gens = refl
  generators (gen_and g gs) = λ i. max (generator g i) (generators gs i)

  operation : (o : OperationTree) → operation_height (bare_operation o) ≡ operation_height o
  operation (tree.genarray e d s) = λ i. 1 + max (expr e i) (maybe d i)
  operation (tree.modarray e s) = ap (λ n. 1 + n) (expr e)
  operation (tree.fold o e s) = ap (λ n. 1 + n) (expr e)

function : (f : FunctionTree) → function_height (bare_function f) ≡ function_height f
function f = λ i. 1 + max (block f.body i) (list f.values i)

abbrev AllLow : List FunctionTree → Type 0
AllLow = AllByRecursion (λ (f : FunctionTree). function_height f ≤ 100)

to_bare : (fs : List FunctionTree) → AllLow fs → AllLow (map bare_function fs)
to_bare [] low = low
to_bare (f ∷ fs) low = (subst (λ n. n ≤ 100) (sym (function f)) low.0, to_bare fs low.1)

from_bare : (fs : List FunctionTree) → AllLow (map bare_function fs) → AllLow fs
from_bare [] low = low
from_bare (f ∷ fs) low = (subst (λ n. n ≤ 100) (function f) low.0, from_bare fs low.1)

-- the limit on heights is kept by both or by none
pub low_again : (p q : ProgramTree) → bare_program q ≡ bare_program p → IsLow p → IsLow q
low_again p q e low = from_bare q.functions (subst AllLow (sym (ap (λ (r : ProgramTree). r.functions) e)) (to_bare p.functions low))

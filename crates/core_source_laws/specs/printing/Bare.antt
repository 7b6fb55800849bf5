-- Trees aside from sites: each site is replaced by one and the same.
use Rattle.std.specs.Prelude.{map}
use Rattle.sac_base.specs.declared.site.Site.{Site}
use Rattle.sac_ast.specs.declared.Target.{Target}
use Rattle.sac_ast.specs.declared.Param.{Param}
use Rattle.sac_ast.specs.Tree
use Rattle.sac_ast.specs.Tree.{IndexTree, named, parts, Expr, Exprs, no_exprs, expr_and, MaybeExpr, left_out, given, Stmt, Block, no_stmts, stmt_and}
use Rattle.sac_ast.specs.Tree.{BoundTree, Gen, gen, Gens, no_gens, gen_and, OperationTree, FunctionTree, ProgramTree}

abbrev pub nowhere : Site
nowhere = record { line = 1; col = 1 }

abbrev pub bare_target : Target → Target
bare_target t = record { name = t.name; site = nowhere }

abbrev pub bare_index : IndexTree → IndexTree
bare_index (named t) = named (bare_target t)
bare_index (parts ts) = parts (map bare_target ts)

abbrev mutual
  pub bare : Expr → Expr
  bare (Tree.number n s) = Tree.number n nowhere
  bare (Tree.truth b s) = Tree.truth b nowhere
  bare (Tree.variable x s) = Tree.variable x nowhere
  bare (Tree.literal es s) = Tree.literal (bare_list es) nowhere
  bare (Tree.unary o e s) = Tree.unary o (bare e) nowhere
  bare (Tree.binary o a b s) = Tree.binary o (bare a) (bare b) nowhere
  bare (Tree.choice c a b s) = Tree.choice (bare c) (bare a) (bare b) nowhere
  bare (Tree.select a i s) = Tree.select (bare a) (bare i) nowhere
  bare (Tree.call x es s) = Tree.call x (bare_list es) nowhere
  bare (Tree.builtin b es s) = Tree.builtin b (bare_list es) nowhere
  bare (Tree.with_loop gs o s) = Tree.with_loop (bare_gens gs) (bare_operation o) nowhere

  pub bare_list : Exprs → Exprs
  bare_list no_exprs = no_exprs
  bare_list (expr_and e es) = expr_and (bare e) (bare_list es)

  pub bare_maybe : MaybeExpr → MaybeExpr
  bare_maybe left_out = left_out
  bare_maybe (given e) = given (bare e)

  pub bare_stmt : Stmt → Stmt
  bare_stmt (Tree.assign ts e) = Tree.assign (map bare_target ts) (bare e)
  bare_stmt (Tree.replace t s i e) = Tree.replace (bare_target t) nowhere (bare i) (bare e)
  bare_stmt (Tree.if_else c a b s) = Tree.if_else (bare c) (bare_block a) (bare_block b) nowhere
  bare_stmt (Tree.while_do c b s) = Tree.while_do (bare c) (bare_block b) nowhere
  bare_stmt (Tree.do_while b c s u) = Tree.do_while (bare_block b) (bare c) nowhere nowhere

  pub bare_block : Block → Block
  bare_block no_stmts = no_stmts
  bare_block (stmt_and s ss) = stmt_and (bare_stmt s) (bare_block ss)

  pub bare_bound : BoundTree → BoundTree
  bare_bound (Tree.dot s) = Tree.dot nowhere
  bare_bound (Tree.at e) = Tree.at (bare e)

  pub bare_gen : Gen → Gen
  bare_gen (gen l lc i u uc s w b e site) = gen (bare_bound l) lc (bare_index i) (bare_bound u) uc (bare_maybe s) (bare_maybe w) (bare_block b) (bare e) nowhere

  pub bare_gens : Gens → Gens
  bare_gens no_gens = no_gens
  bare_gens (gen_and g gs) = gen_and (bare_gen g) (bare_gens gs)

  pub bare_operation : OperationTree → OperationTree
  bare_operation (Tree.genarray e d s) = Tree.genarray (bare e) (bare_maybe d) nowhere
  bare_operation (Tree.modarray e s) = Tree.modarray (bare e) nowhere
  bare_operation (Tree.fold o e s) = Tree.fold o (bare e) nowhere

abbrev pub bare_param : Param → Param
bare_param p = record { ty = p.ty; name = p.name; site = nowhere }

abbrev pub bare_function : FunctionTree → FunctionTree
bare_function f = record {
  inline = f.inline;
  results = f.results;
  name = f.name;
  site = nowhere;
  params = map bare_param f.params;
  body = bare_block f.body;
  values = bare_list f.values;
  ends = nowhere;
}

-- the program aside from its sites
abbrev pub bare_program : ProgramTree → ProgramTree
bare_program p = record { functions = map bare_function p.functions; end = nowhere }

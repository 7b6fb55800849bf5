-- Each tree that fits the grammar is read from its texts, by induction on it.
use Rattle.std.proofs.Common.{ℕ, List, pos, negsuc}
use Rattle.sac_ast.specs.declared.Builtin.TheVariants as built
use Rattle.sac_ast.specs.Tree as tree
use Rattle.sac_ast.specs.Tree.{IndexTree, named, parts, Expr, Exprs, no_exprs, expr_and, MaybeExpr, left_out, given, Stmt, Block, no_stmts, stmt_and, BoundTree, Gen, gen, Gens, no_gens, gen_and, OperationTree}
use Rattle.sac_print.specs.declared.level.Level.TheVariants as level
use Rattle.core_source_laws.proofs.printing.Fits.{Fits, FitAll, FitsMaybe, FitsStmt, FitBlock, FitsBound, FitsGen, FitGens, FitsOperation}
use Rattle.core_source_laws.proofs.printing.Spelled.{Spelled, number_is, truth_is, variable_is, ListRead, nothing_more, one_more, whole_list, list_index, single, select_spelled, unary_spelled, binary_spelled, choice_spelled, empty_list, some_list, literal_spelled, call_spelled, dim_spelled, shape_spelled, reshape_spelled}
use Rattle.core_source_laws.proofs.printing.Phrases.{BoundPhrase, dot_read, given_read, index_read, MaybeRead, left_out_read, there_read, StmtPhrase, BlockRead, no_stmts_read, stmts_read, assign_read, replace_read, if_read, while_read, do_read, GenPhrase, gen_read, GensRead, no_gens_read, gens_read, OperationPhrase, genarray_read, default_read, modarray_read, fold_read, with_spelled}

mutual
  pub spelled : (e : Expr) → Fits e → Spelled e
  spelled (tree.number (pos n) s) h = number_is n h s
  spelled (tree.number (negsuc n) s) h = absurd h
  spelled (tree.truth b s) h = truth_is b s
  spelled (tree.variable x s) h = variable_is x h.is s
  spelled (tree.literal no_exprs s) h = literal_spelled no_exprs s empty_list
  spelled (tree.literal (expr_and e es) s) h = literal_spelled (expr_and e es) s (some_list e es (whole_list e es (spelled e h.0 level.Expression) (listed es h.1)))
  spelled (tree.unary o e s) h = unary_spelled o h.0 e s (spelled e h.1)
  spelled (tree.binary o a b s) h = binary_spelled o h.0 a b s (spelled a h.1) (spelled b h.2)
  spelled (tree.choice c a b s) h = choice_spelled c a b s (spelled c h.0) (spelled a h.1) (spelled b h.2)
  -- an index that is a literal of two or more is read as the list of them
  spelled (tree.select a (tree.literal (expr_and x (expr_and y es)) u) s) h = select_spelled a (tree.literal (expr_and x (expr_and y es)) u) s (spelled a h.0) (list_index x y es u (whole_list x (expr_and y es) (spelled x h.1.0 level.Expression) (one_more y es (spelled y h.1.1.0 level.Expression) (listed es h.1.1.1))))
  spelled (tree.select a i s) h = select_spelled a i s (spelled a h.0) (single i (spelled i h.1 level.Expression))
  spelled (tree.call x no_exprs s) h = call_spelled x h.0.is no_exprs s empty_list
  spelled (tree.call x (expr_and e es) s) h = call_spelled x h.0.is (expr_and e es) s (some_list e es (whole_list e es (spelled e h.1.0 level.Expression) (listed es h.1.1)))
  spelled (tree.builtin built.Dim (expr_and e no_exprs) s) h = dim_spelled e s (spelled e h.1.0)
  spelled (tree.builtin built.Shape (expr_and e no_exprs) s) h = shape_spelled e s (spelled e h.1.0)
  spelled (tree.builtin built.Reshape (expr_and e (expr_and f no_exprs)) s) h = reshape_spelled e f s (spelled e h.1.0) (spelled f h.1.1.0)
  spelled (tree.builtin built.Dim no_exprs s) h = absurd (cc)
  spelled (tree.builtin built.Dim (expr_and e (expr_and f es)) s) h = absurd (cc)
  spelled (tree.builtin built.Shape no_exprs s) h = absurd (cc)
  spelled (tree.builtin built.Shape (expr_and e (expr_and f es)) s) h = absurd (cc)
  spelled (tree.builtin built.Reshape no_exprs s) h = absurd (cc)
  spelled (tree.builtin built.Reshape (expr_and e no_exprs) s) h = absurd (cc)
  spelled (tree.builtin built.Reshape (expr_and e (expr_and f (expr_and g es))) s) h = absurd (cc)
  spelled (tree.with_loop gs o s) h = with_spelled gs o s (generators gs h.0) (operation o h.1)

  pub listed : (es : Exprs) → FitAll es → ListRead es
  listed no_exprs h = nothing_more
  listed (expr_and e es) h = one_more e es (spelled e h.0 level.Expression) (listed es h.1)

  maybe : (word : List ℕ) (m : MaybeExpr) → FitsMaybe m → MaybeRead word m
  maybe word left_out h = left_out_read word
  maybe word (given e) h = there_read word e (spelled e h)

  statement : (s : Stmt) → FitsStmt s → StmtPhrase s
  statement (tree.assign ts e) h = assign_read ts e h.0 (spelled e h.1)
  statement (tree.replace t s (tree.literal (expr_and x (expr_and y es)) u) e) h = replace_read t s (tree.literal (expr_and x (expr_and y es)) u) e h.0 (list_index x y es u (whole_list x (expr_and y es) (spelled x h.1.0 level.Expression) (one_more y es (spelled y h.1.1.0 level.Expression) (listed es h.1.1.1)))) (spelled e h.2)
  statement (tree.replace t s i e) h = replace_read t s i e h.0 (single i (spelled i h.1 level.Expression)) (spelled e h.2)
  statement (tree.if_else c a b s) h = if_read c a b s (spelled c h.0) (block a h.1) (block b h.2)
  statement (tree.while_do c b s) h = while_read c b s (spelled c h.0) (block b h.1)
  statement (tree.do_while b c s u) h = do_read b c s u (block b h.0) (spelled c h.1)

  pub block : (b : Block) → FitBlock b → BlockRead b
  block no_stmts h = no_stmts_read
  block (stmt_and s ss) h = stmts_read s ss (statement s h.0) (block ss h.1)

  bound : (b : BoundTree) → FitsBound b → BoundPhrase b
  bound (tree.dot s) h = dot_read s
  bound (tree.at e) h = given_read e (spelled e h)

  generator : (g : Gen) → FitsGen g → GenPhrase g
  generator (gen l lc i u uc s w b e site) h = gen_read l lc i u uc s w b e site (bound l h.0) (index_read i h.1) (bound u h.2) (maybe _ s h.3) (maybe _ w h.4) (block b h.5) (spelled e h.6)

  generators : (gs : Gens) → FitGens gs → GensRead gs
  generators no_gens h = no_gens_read
  generators (gen_and g gs) h = gens_read g gs (generator g h.0) (generators gs h.1)

  operation : (o : OperationTree) → FitsOperation o → OperationPhrase o
  operation (tree.genarray e left_out s) h = genarray_read e s (spelled e h.0)
  operation (tree.genarray e (given d) s) h = default_read e d s (spelled e h.0) (spelled d h.1)
  operation (tree.modarray e s) h = modarray_read e s (spelled e h)
  operation (tree.fold o e s) h = fold_read o h.0 e s (spelled e h.1)

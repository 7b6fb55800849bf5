-- A tree whose parts are as the grammar gives them is of the form that laws of accepted programs ask for.
use Rattle.std.proofs.Common.{◌≡◌, true, List, [], ◌∷◌, pos, negsuc, arith}
use Rattle.std.specs.List.{AllByRecursion}
use Rattle.sac_base.specs.declared.op.Op.{Op}
use Rattle.sac_base.specs.declared.op.Op.TheVariants.{Add, Sub, Mul, Div, Rem, Min, Max, Neg, Not, Eq, Ne, Lt, Le, Gt, Ge, And, Or}
use Rattle.sac_ast.specs.declared.Builtin.{Builtin}
use Rattle.sac_ast.specs.declared.Builtin.TheVariants.{Dim, Shape, Reshape}
use Rattle.sac_ast.specs.Tree.{IndexTree, named, parts, Expr, Exprs, no_exprs, expr_and, MaybeExpr, left_out, given, Stmt, Block, no_stmts, stmt_and, BoundTree, dot, at, Gen, gen, Gens, no_gens, gen_and, OperationTree, FunctionTree, ProgramTree, number, truth, variable, literal, unary, binary, choice, select, call, builtin, with_loop, assign, replace, if_else, while_do, do_while, genarray, modarray, fold}
use Rattle.core_lowering.specs.Definite.{HasName}
use Rattle.core_lowering.specs.acceptance.Formed.{TakesOne, TakesTwo, IsFolding, HasArguments, IsFormed, AreFormed, MaybeFormed, BoundFormed, GenFormed, GensFormed, OperationFormed, StmtFormed, BlockFormed, FunctionsFormed, ProgramFormed}
use Rattle.core_source_laws.proofs.printing.Fits.{is_prefix, is_binary, is_foldop, FitsIndex, count, arity, Fits, FitAll, FitsMaybe, FitsStmt, FitBlock, FitsBound, FitsGen, FitGens, FitsOperation, FitValues, FitsFunction, FitsProgram}

takes_one : (op : Op) → is_prefix op ≡ true → TakesOne op
takes_one Neg h = tt
takes_one Not h = tt
takes_one Add h = absurd (cc)
takes_one Sub h = absurd (cc)
takes_one Mul h = absurd (cc)
takes_one Div h = absurd (cc)
takes_one Rem h = absurd (cc)
takes_one Min h = absurd (cc)
takes_one Max h = absurd (cc)
takes_one Eq h = absurd (cc)
takes_one Ne h = absurd (cc)
takes_one Lt h = absurd (cc)
takes_one Le h = absurd (cc)
takes_one Gt h = absurd (cc)
takes_one Ge h = absurd (cc)
takes_one And h = absurd (cc)
takes_one Or h = absurd (cc)

takes_two : (op : Op) → is_binary op ≡ true → TakesTwo op
takes_two Neg h = absurd (cc)
takes_two Not h = absurd (cc)
takes_two Add h = tt
takes_two Sub h = tt
takes_two Mul h = tt
takes_two Div h = tt
takes_two Rem h = tt
takes_two Min h = tt
takes_two Max h = tt
takes_two Eq h = tt
takes_two Ne h = tt
takes_two Lt h = tt
takes_two Le h = tt
takes_two Gt h = tt
takes_two Ge h = tt
takes_two And h = tt
takes_two Or h = tt

is_folding : (op : Op) → is_foldop op ≡ true → IsFolding op
is_folding Add h = tt
is_folding Mul h = tt
is_folding Min h = tt
is_folding Max h = tt
is_folding And h = tt
is_folding Or h = tt
is_folding Neg h = absurd (cc)
is_folding Not h = absurd (cc)
is_folding Sub h = absurd (cc)
is_folding Div h = absurd (cc)
is_folding Rem h = absurd (cc)
is_folding Eq h = absurd (cc)
is_folding Ne h = absurd (cc)
is_folding Lt h = absurd (cc)
is_folding Le h = absurd (cc)
is_folding Gt h = absurd (cc)
is_folding Ge h = absurd (cc)

has_arguments : (b : Builtin) (es : Exprs) → count es ≡ arity b → HasArguments b es
has_arguments Dim no_exprs h = absurd (omega (arith, h))
has_arguments Dim (expr_and e no_exprs) h = tt
has_arguments Dim (expr_and e (expr_and f es)) h = absurd (omega (arith, h))
has_arguments Shape no_exprs h = absurd (omega (arith, h))
has_arguments Shape (expr_and e no_exprs) h = tt
has_arguments Shape (expr_and e (expr_and f es)) h = absurd (omega (arith, h))
has_arguments Reshape no_exprs h = absurd (omega (arith, h))
has_arguments Reshape (expr_and e no_exprs) h = absurd (omega (arith, h))
has_arguments Reshape (expr_and e (expr_and f no_exprs)) h = tt
has_arguments Reshape (expr_and e (expr_and f (expr_and g es))) h = absurd (omega (arith, h))

has_index : (index : IndexTree) → FitsIndex index → HasName index
has_index (named target) h = tt
has_index (parts []) h = absurd h
has_index (parts (target ∷ targets)) h = tt

mutual
  is_formed : (e : Expr) → Fits e → IsFormed e
  is_formed (number (pos n) site) h = record { sfits = h }
  is_formed (number (negsuc n) site) h = absurd h
  is_formed (truth b site) h = tt
  is_formed (variable name site) h = tt
  is_formed (literal es site) h = are_formed es h
  is_formed (unary op e site) h = (takes_one op h.0, is_formed e h.1)
  is_formed (binary op e f site) h = (takes_two op h.0, is_formed e h.1, is_formed f h.2)
  is_formed (choice c e f site) h = (is_formed c h.0, is_formed e h.1, is_formed f h.2)
  is_formed (select e i site) h = (is_formed e h.0, is_formed i h.1)
  is_formed (call name es site) h = are_formed es h.1
  is_formed (builtin b es site) h = (has_arguments b es h.0, are_formed es h.1)
  is_formed (with_loop gs op site) h = (gens_formed gs h.0, operation_formed op h.1)

  are_formed : (es : Exprs) → FitAll es → AreFormed es
  are_formed no_exprs h = tt
  are_formed (expr_and e es) h = (is_formed e h.0, are_formed es h.1)

  maybe_formed : (e : MaybeExpr) → FitsMaybe e → MaybeFormed e
  maybe_formed left_out h = tt
  maybe_formed (given e) h = is_formed e h

  bound_formed : (b : BoundTree) → FitsBound b → BoundFormed b
  bound_formed (dot site) h = tt
  bound_formed (at e) h = is_formed e h

  gen_formed : (g : Gen) → FitsGen g → GenFormed g
  gen_formed (gen lower lower_closed index upper upper_closed step width body cell site) h =
      (has_index index h.1, bound_formed lower h.0, bound_formed upper h.2, maybe_formed step h.3, maybe_formed width h.4, block_formed body h.5, is_formed cell h.6)

  gens_formed : (gs : Gens) → FitGens gs → GensFormed gs
  gens_formed no_gens h = tt
  gens_formed (gen_and g gs) h = (gen_formed g h.0, gens_formed gs h.1)

  operation_formed : (op : OperationTree) → FitsOperation op → OperationFormed op
  operation_formed (genarray shape default site) h = (is_formed shape h.0, maybe_formed default h.1)
  operation_formed (modarray array site) h = is_formed array h
  operation_formed (fold op neutral site) h = (is_folding op h.0, is_formed neutral h.1)

  stmt_formed : (s : Stmt) → FitsStmt s → StmtFormed s
  stmt_formed (assign targets e) h = is_formed e h.1
  stmt_formed (replace target bracket index e) h = (is_formed index h.1, is_formed e h.2)
  stmt_formed (if_else c first second site) h = (is_formed c h.0, block_formed first h.1, block_formed second h.2)
  stmt_formed (while_do c body site) h = (is_formed c h.0, block_formed body h.1)
  stmt_formed (do_while body c site test) h = (block_formed body h.0, is_formed c h.1)

  block_formed : (b : Block) → FitBlock b → BlockFormed b
  block_formed no_stmts h = tt
  block_formed (stmt_and s rest) h = (stmt_formed s h.0, block_formed rest h.1)

values_formed : (es : Exprs) → FitValues es → AreFormed es
values_formed no_exprs h = absurd h
values_formed (expr_and e es) h = (is_formed e h.0, are_formed es h.1)

functions_formed : (fs : List FunctionTree) → AllByRecursion FitsFunction fs → FunctionsFormed fs
functions_formed [] h = tt
functions_formed (f ∷ fs) h = (record { body = block_formed f.body h.0.body; values = values_formed f.values h.0.values }, functions_formed fs h.1)

pub program_formed : (p : ProgramTree) → FitsProgram p → ProgramFormed p
program_formed p h = functions_formed p.functions h

-- What each tree that is read from a source has: numbers of 32 bits, operators and built-in functions with as many operands as they take, folds with
-- an operator that folds, and index lists with a name.
use Rattle.std.specs.Prelude.{List, [], ◌∷◌, FitsSigned}
use mir.Syntax.{w32}
use Rattle.sac_base.specs.declared.op.Op.{Op}
use Rattle.sac_base.specs.declared.op.Op.TheVariants.{Neg, Not, Add, Mul, Min, Max, And, Or}
use Rattle.sac_ast.specs.declared.Builtin.{Builtin}
use Rattle.sac_ast.specs.declared.Builtin.TheVariants.{Dim, Shape, Reshape}
use Rattle.sac_ast.specs.Tree.{Expr, Exprs, no_exprs, expr_and, MaybeExpr, left_out, given, Stmt, Block, no_stmts, stmt_and, BoundTree, dot, at, Gen}
use Rattle.sac_ast.specs.Tree.{gen, Gens, no_gens, gen_and, OperationTree, FunctionTree, ProgramTree, number, truth, variable, literal, unary, binary}
use Rattle.sac_ast.specs.Tree.{choice, select, call, builtin, with_loop, assign, replace, if_else, while_do, do_while, genarray, modarray, fold}
use Rattle.core_lowering.specs.Definite.{HasName}

-- an operator of one operand
abbrev pub TakesOne : Op → Type 0
TakesOne Neg = Unit {0}
TakesOne Not = Unit {0}
TakesOne _ = ⊥

-- an operator of two
abbrev pub TakesTwo : Op → Type 0
TakesTwo Neg = ⊥
TakesTwo Not = ⊥
TakesTwo _ = Unit {0}

-- an operator of folds
abbrev pub IsFolding : Op → Type 0
IsFolding Add = Unit {0}
IsFolding Mul = Unit {0}
IsFolding Min = Unit {0}
IsFolding Max = Unit {0}
IsFolding And = Unit {0}
IsFolding Or = Unit {0}
IsFolding _ = ⊥

-- a built-in function has its arguments
abbrev pub HasArguments : Builtin → Exprs → Type 0
HasArguments Dim (expr_and e no_exprs) = Unit {0}
HasArguments Shape (expr_and e no_exprs) = Unit {0}
HasArguments Reshape (expr_and e (expr_and f no_exprs)) = Unit {0}
HasArguments _ _ = ⊥

abbrev mutual
  pub IsFormed : Expr → Type 0
  IsFormed (number z site) = FitsSigned w32 z
  IsFormed (truth b site) = Unit {0}
  IsFormed (variable name site) = Unit {0}
  IsFormed (literal es site) = AreFormed es
  IsFormed (unary op e site) = TakesOne op × IsFormed e
  IsFormed (binary op e f site) = TakesTwo op × IsFormed e × IsFormed f
  IsFormed (choice c e f site) = IsFormed c × IsFormed e × IsFormed f
  IsFormed (select e i site) = IsFormed e × IsFormed i
  IsFormed (call name es site) = AreFormed es
  IsFormed (builtin b es site) = HasArguments b es × AreFormed es
  IsFormed (with_loop gs op site) = GensFormed gs × OperationFormed op

  pub AreFormed : Exprs → Type 0
  AreFormed no_exprs = Unit {0}
  AreFormed (expr_and e es) = IsFormed e × AreFormed es

  pub MaybeFormed : MaybeExpr → Type 0
  MaybeFormed left_out = Unit {0}
  MaybeFormed (given e) = IsFormed e

  pub BoundFormed : BoundTree → Type 0
  BoundFormed (dot site) = Unit {0}
  BoundFormed (at e) = IsFormed e

  pub GenFormed : Gen → Type 0
  GenFormed (gen lower lower_closed index upper upper_closed step width body cell site) =
      HasName index × BoundFormed lower × BoundFormed upper × MaybeFormed step × MaybeFormed width × BlockFormed body × IsFormed cell

  pub GensFormed : Gens → Type 0
  GensFormed no_gens = Unit {0}
  GensFormed (gen_and g gs) = GenFormed g × GensFormed gs

  pub OperationFormed : OperationTree → Type 0
  OperationFormed (genarray shape default site) = IsFormed shape × MaybeFormed default
  OperationFormed (modarray array site) = IsFormed array
  OperationFormed (fold op neutral site) = IsFolding op × IsFormed neutral

  pub StmtFormed : Stmt → Type 0
  StmtFormed (assign targets e) = IsFormed e
  StmtFormed (replace target bracket index e) = IsFormed index × IsFormed e
  StmtFormed (if_else c first second site) = IsFormed c × BlockFormed first × BlockFormed second
  StmtFormed (while_do c body site) = IsFormed c × BlockFormed body
  StmtFormed (do_while body c site test) = BlockFormed body × IsFormed c

  pub BlockFormed : Block → Type 0
  BlockFormed no_stmts = Unit {0}
  BlockFormed (stmt_and s rest) = StmtFormed s × BlockFormed rest

pub record FunctionFormed (f : FunctionTree) : Type 0 where
  pub body : BlockFormed f.body
  pub values : AreFormed f.values

abbrev pub FunctionsFormed : List FunctionTree → Type 0
FunctionsFormed [] = Unit {0}
FunctionsFormed (f ∷ fs) = FunctionFormed f × FunctionsFormed fs

abbrev pub ProgramFormed : ProgramTree → Type 0
ProgramFormed p = FunctionsFormed p.functions

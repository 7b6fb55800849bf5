-- The trees of a source, as mathematical values: nothing here knows where in memory a tree stands, or how much room its lists have.
use Rattle.std.specs.Prelude.{List, ℤ, Bool}
use Rattle.sac_base.specs.declared.site.Site.{Site}
use Rattle.sac_base.specs.declared.op.Op.{Op}
use Rattle.sac_base.specs.declared.name.Name.{Name}
use Rattle.sac_base.specs.declared.types.ArrayType.{ArrayType}
use Rattle.sac_ast.specs.declared.Target.{Target}
use Rattle.sac_ast.specs.declared.Param.{Param}
use Rattle.sac_ast.specs.declared.Builtin.{Builtin}

-- how a generator names its index: by one name for the vector, or by a name for each component
pub data IndexTree : Type 0 where
  named : Target → IndexTree
  parts : List Target → IndexTree

mutual
  pub data Expr : Type 0 where
    number : ℤ → Site → Expr
    truth : Bool → Site → Expr
    variable : Name → Site → Expr
    literal : Exprs → Site → Expr
    unary : Op → Expr → Site → Expr
    binary : Op → Expr → Expr → Site → Expr
    choice : Expr → Expr → Expr → Site → Expr
    select : Expr → Expr → Site → Expr
    call : Name → Exprs → Site → Expr
    builtin : Builtin → Exprs → Site → Expr
    with_loop : Gens → OperationTree → Site → Expr

  -- some expressions, in order
  pub data Exprs : Type 0 where
    no_exprs : Exprs
    expr_and : Expr → Exprs → Exprs

  -- an expression that may be left out
  pub data MaybeExpr : Type 0 where
    left_out : MaybeExpr
    given : Expr → MaybeExpr

  pub data Stmt : Type 0 where
    assign : List Target → Expr → Stmt
    replace : Target → Site → Expr → Expr → Stmt
    if_else : Expr → Block → Block → Site → Stmt
    while_do : Expr → Block → Site → Stmt
    do_while : Block → Expr → Site → Site → Stmt

  -- some statements, in order
  pub data Block : Type 0 where
    no_stmts : Block
    stmt_and : Stmt → Block → Block

  pub data BoundTree : Type 0 where
    dot : Site → BoundTree
    at : Expr → BoundTree

  -- a generator: its lower bound and whether that is closed, its index, its upper bound and whether that is closed, its step, width, block, cell and site
  pub data Gen : Type 0 where
    gen : BoundTree → Bool → IndexTree → BoundTree → Bool → MaybeExpr → MaybeExpr → Block → Expr → Site → Gen

  pub data Gens : Type 0 where
    no_gens : Gens
    gen_and : Gen → Gens → Gens

  pub data OperationTree : Type 0 where
    genarray : Expr → MaybeExpr → Site → OperationTree
    modarray : Expr → Site → OperationTree
    fold : Op → Expr → Site → OperationTree

pub record FunctionTree : Type 0 where
  pub inline : Bool
  pub results : List ArrayType
  pub name : Name
  pub site : Site
  pub params : List Param
  pub body : Block
  pub values : Exprs
  pub ends : Site

pub record ProgramTree : Type 0 where
  pub functions : List FunctionTree
  pub end : Site

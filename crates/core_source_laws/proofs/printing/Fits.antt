-- What the grammar asks of the parts of a tree: names and numbers that are spelled as tokens, operators in their places, and as many parts as each construct has.
use Rattle.std.specs.Prelude.{ℕ, suc, ◌≡◌, ◌≤◌, ◌<◌, ◌^◌, Bool, true, false, List, [], ◌∷◌, length, ⊤}
use Rattle.std.specs.List.{AllByRecursion}
use Rattle.sac_base.specs.declared.op.Op.{Op}
use Rattle.sac_base.specs.declared.op.Op.TheVariants.{Add, Mul, Min, Max, Neg, Not, And, Or}
use Rattle.sac_base.specs.declared.types.ArrayType.{ArrayType}
use Rattle.sac_base.specs.declared.types.Part.{Part}
use Rattle.sac_base.specs.declared.types.Part.TheVariants.{Known, Rank, Plus, Star}
use Rattle.sac_base.specs.Shapes.{IsExtent}
use Rattle.sac_ast.specs.declared.Builtin.{Builtin}
use Rattle.sac_ast.specs.declared.Builtin.TheVariants.{Dim, Shape, Reshape}
use Rattle.sac_ast.specs.declared.Target.{Target}
use Rattle.sac_ast.specs.declared.Param.{Param}
use Rattle.sac_ast.specs.Texts.{is_name}
use Rattle.sac_lex.specs.Spelling.{IsRun, is_letter, is_word_byte}
use Rattle.sac_ast.specs.Tree
use Rattle.sac_ast.specs.Tree.{IndexTree, named, parts, Expr, Exprs, no_exprs, expr_and, MaybeExpr, left_out, given, Stmt, Block, no_stmts, stmt_and, BoundTree, Gen, gen, Gens, no_gens, gen_and, OperationTree, FunctionTree, ProgramTree}

abbrev pub is_prefix : Op → Bool
is_prefix Neg = true
is_prefix Not = true
is_prefix o = false

-- operators that stand between their operands
abbrev pub is_infix : Op → Bool
is_infix Neg = false
is_infix Not = false
is_infix Min = false
is_infix Max = false
is_infix o = true

abbrev pub is_binary : Op → Bool
is_binary Neg = false
is_binary Not = false
is_binary o = true

abbrev pub is_foldop : Op → Bool
is_foldop Add = true
is_foldop Mul = true
is_foldop Min = true
is_foldop Max = true
is_foldop And = true
is_foldop Or = true
is_foldop o = false

-- a name that the lexer gives
pub record FitsName (x : List ℕ) : Type 0 where
  pub is : is_name x ≡ true
  pub run : IsRun is_letter is_word_byte x
  pub short : length x ≤ 64

abbrev pub FitsTarget : Target → Type 0
FitsTarget t = FitsName t.name

-- one at least
abbrev pub FitTargets : List Target → Type 0
FitTargets [] = ⊥
FitTargets (t ∷ ts) = FitsTarget t × AllByRecursion FitsTarget ts

abbrev pub FitsIndex : IndexTree → Type 0
FitsIndex (named t) = FitsTarget t
FitsIndex (parts ts) = FitTargets ts

abbrev pub count : Exprs → ℕ
count no_exprs = 0
count (expr_and e es) = suc (count es)

abbrev pub arity : Builtin → ℕ
arity Dim = 1
arity Shape = 1
arity Reshape = 2

abbrev mutual
  pub Fits : Expr → Type 0
  Fits (Tree.number n s) = IsExtent n
  Fits (Tree.truth b s) = ⊤
  Fits (Tree.variable x s) = FitsName x
  Fits (Tree.literal es s) = FitAll es
  Fits (Tree.unary o e s) = (is_prefix o ≡ true) × Fits e
  Fits (Tree.binary o a b s) = (is_binary o ≡ true) × Fits a × Fits b
  Fits (Tree.choice c a b s) = Fits c × Fits a × Fits b
  Fits (Tree.select a i s) = Fits a × Fits i
  Fits (Tree.call x es s) = FitsName x × FitAll es
  Fits (Tree.builtin b es s) = (count es ≡ arity b) × FitAll es
  Fits (Tree.with_loop gs o s) = FitGens gs × FitsOperation o

  pub FitAll : Exprs → Type 0
  FitAll no_exprs = ⊤
  FitAll (expr_and e es) = Fits e × FitAll es

  pub FitsMaybe : MaybeExpr → Type 0
  FitsMaybe left_out = ⊤
  FitsMaybe (given e) = Fits e

  pub FitsStmt : Stmt → Type 0
  FitsStmt (Tree.assign ts e) = FitTargets ts × Fits e
  FitsStmt (Tree.replace t s i e) = FitsTarget t × Fits i × Fits e
  FitsStmt (Tree.if_else c a b s) = Fits c × FitBlock a × FitBlock b
  FitsStmt (Tree.while_do c b s) = Fits c × FitBlock b
  FitsStmt (Tree.do_while b c s u) = FitBlock b × Fits c

  pub FitBlock : Block → Type 0
  FitBlock no_stmts = ⊤
  FitBlock (stmt_and s ss) = FitsStmt s × FitBlock ss

  pub FitsBound : BoundTree → Type 0
  FitsBound (Tree.dot s) = ⊤
  FitsBound (Tree.at e) = Fits e

  pub FitsGen : Gen → Type 0
  FitsGen (gen l lc i u uc s w b e site) = FitsBound l × FitsIndex i × FitsBound u × FitsMaybe s × FitsMaybe w × FitBlock b × Fits e

  pub FitGens : Gens → Type 0
  FitGens no_gens = ⊤
  FitGens (gen_and g gs) = FitsGen g × FitGens gs

  pub FitsOperation : OperationTree → Type 0
  FitsOperation (Tree.genarray e d s) = Fits e × FitsMaybe d
  FitsOperation (Tree.modarray e s) = Fits e
  FitsOperation (Tree.fold o e s) = (is_foldop o ≡ true) × Fits e

abbrev pub FitsPart : Part → Type 0
FitsPart (Known ns) = (length ns ≤ 8) × AllByRecursion (λ n. n < 2 ^ 31) ns
FitsPart (Rank n) = (1 ≤ n) × (n ≤ 8)
FitsPart Plus = ⊤
FitsPart Star = ⊤

abbrev pub FitsType : ArrayType → Type 0
FitsType ty = FitsPart ty.part

abbrev pub FitsParam : Param → Type 0
FitsParam p = FitsType p.ty × FitsName p.name

-- one result at least
abbrev pub FitResults : List ArrayType → Type 0
FitResults [] = ⊥
FitResults (t ∷ ts) = FitsType t × AllByRecursion FitsType ts

-- one value at least
abbrev pub FitValues : Exprs → Type 0
FitValues no_exprs = ⊥
FitValues (expr_and e es) = Fits e × FitAll es

pub record FitsFunction (f : FunctionTree) : Type 0 where
  pub results : FitResults f.results
  pub name : FitsName f.name
  pub params : AllByRecursion FitsParam f.params
  pub body : FitBlock f.body
  pub values : FitValues f.values

abbrev pub FitsProgram : ProgramTree → Type 0
FitsProgram p = AllByRecursion FitsFunction p.functions

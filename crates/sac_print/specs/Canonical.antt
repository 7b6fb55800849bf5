-- The canonical text of a program: the tokens of its tree in the grammar's order.
use Rattle.std.specs.Prelude.{ℕ, Bool, List, [], ◌∷◌, map, replicate, if◌then◌else◌, codes}
use Rattle.std.specs.Fmt.{decimal, signed_decimal}
use Rattle.sac_base.specs.declared.base.Base.{Base}
use Rattle.sac_base.specs.declared.base.Base.TheVariants.{Int, Bool as Truth}
use Rattle.sac_base.specs.declared.types.Part.{Part}
use Rattle.sac_base.specs.declared.types.Part.TheVariants.{Known, Rank, Plus, Star}
use Rattle.sac_base.specs.declared.types.ArrayType.{ArrayType}
use Rattle.sac_ast.specs.declared.Target.{Target}
use Rattle.sac_ast.specs.declared.Param.{Param}
use Rattle.sac_ast.specs.Tree.{IndexTree, named, parts, Expr, Exprs, no_exprs, expr_and, MaybeExpr, left_out, given, Stmt, Block, no_stmts, stmt_and}
use Rattle.sac_ast.specs.Tree.{BoundTree, Gen, gen, Gens, no_gens, gen_and, OperationTree, FunctionTree, ProgramTree}
use Rattle.sac_ast.specs.Tree as tree
use Rattle.sac_print.specs.declared.level.Level.{Level}
use Rattle.sac_print.specs.declared.level.Level.TheVariants as level
use Rattle.sac_print.specs.Texts.{Texts, ◌⋅◌, one, comma, commas, written}
use Rattle.sac_print.specs.Operators.{operator_text, builtin_text, is_function, level_of, tighter, is_looser, opening, closing}

abbrev pub parens : Texts → Texts
parens a = one (codes "(") ⋅ a ⋅ one (codes ")")

abbrev pub brackets : Texts → Texts
brackets a = one (codes "[") ⋅ a ⋅ one (codes "]")

abbrev pub braces : Texts → Texts
braces a = one (codes "{") ⋅ a ⋅ one (codes "}")

abbrev pub target_texts : Target → Texts
target_texts t = one t.name

abbrev pub targets_texts : List Target → Texts
targets_texts ts = commas (map target_texts ts)

abbrev pub index_texts : IndexTree → Texts
index_texts (named t) = target_texts t
index_texts (parts ts) = brackets (targets_texts ts)

-- the sign before a bound or behind it
abbrev pub bound_sign : Bool → List ℕ
bound_sign closed = if closed then codes "<=" else codes "<"

abbrev pub truth_text : Bool → List ℕ
truth_text b = if b then codes "true" else codes "false"

-- expressions where a phrase of a level is wanted, and what is made of them
abbrev mutual
  pub spell : Expr → Level → Texts
  spell (tree.number n s) wanted = one (signed_decimal n)
  spell (tree.truth b s) wanted = one (truth_text b)
  spell (tree.variable x s) wanted = one x
  spell (tree.literal es s) wanted = brackets (spell_list es)
  spell (tree.unary o e s) wanted =
      opening (is_looser level.Prefix wanted) ⋅ one (operator_text o) ⋅ spell e level.Prefix ⋅ closing (is_looser level.Prefix wanted)
  spell (tree.binary o a b s) wanted =
      if is_function o
      then one (operator_text o) ⋅ parens (spell a level.Expression ⋅ comma ⋅ spell b level.Expression)
      else
      opening (is_looser (level_of o) wanted) ⋅ spell a (level_of o) ⋅ one (operator_text o)
      ⋅ spell b (tighter (level_of o)) ⋅ closing (is_looser (level_of o) wanted)
  spell (tree.choice c a b s) wanted =
      opening (is_looser level.Expression wanted) ⋅ spell c level.Disjunction ⋅ one (codes "?") ⋅ spell a level.Expression
      ⋅ one (codes ":") ⋅ spell b level.Expression ⋅ closing (is_looser level.Expression wanted)
  -- an index that is a literal of two elements or more is written as the list of them
  spell (tree.select a (tree.literal (expr_and x (expr_and y es)) u) s) wanted =
      spell a level.Postfix ⋅ brackets (spell x level.Expression ⋅ comma ⋅ spell y level.Expression ⋅ spell_more es)
  spell (tree.select a i s) wanted = spell a level.Postfix ⋅ brackets (spell i level.Expression)
  spell (tree.call x es s) wanted = one x ⋅ parens (spell_list es)
  spell (tree.builtin b es s) wanted = one (builtin_text b) ⋅ parens (spell_list es)
  spell (tree.with_loop gs o s) wanted = one (codes "with") ⋅ braces (spell_gens gs) ⋅ one (codes ":") ⋅ spell_operation o

  -- with commas between them
  pub spell_list : Exprs → Texts
  spell_list no_exprs = []
  spell_list (expr_and e es) = spell e level.Expression ⋅ spell_more es

  -- with a comma before each
  pub spell_more : Exprs → Texts
  spell_more no_exprs = []
  spell_more (expr_and e es) = comma ⋅ spell e level.Expression ⋅ spell_more es

  -- with a word before it, or nothing
  pub spell_maybe : MaybeExpr → List ℕ → Texts
  spell_maybe left_out word = []
  spell_maybe (given e) word = one word ⋅ spell e level.Sum

  pub spell_stmt : Stmt → Texts
  spell_stmt (tree.assign ts e) = targets_texts ts ⋅ one (codes "=") ⋅ spell e level.Expression ⋅ one (codes ";")
  spell_stmt (tree.replace t s (tree.literal (expr_and x (expr_and y es)) u) e) =
      target_texts t ⋅ brackets (spell x level.Expression ⋅ comma ⋅ spell y level.Expression ⋅ spell_more es)
      ⋅ one (codes "=") ⋅ spell e level.Expression ⋅ one (codes ";")
  spell_stmt (tree.replace t s i e) = target_texts t ⋅ brackets (spell i level.Expression) ⋅ one (codes "=") ⋅ spell e level.Expression ⋅ one (codes ";")
  spell_stmt (tree.if_else c a b s) = one (codes "if") ⋅ parens (spell c level.Expression) ⋅ braces (spell_block a) ⋅ spell_else b
  spell_stmt (tree.while_do c b s) = one (codes "while") ⋅ parens (spell c level.Expression) ⋅ braces (spell_block b)
  spell_stmt (tree.do_while b c s u) = one (codes "do") ⋅ braces (spell_block b) ⋅ one (codes "while") ⋅ parens (spell c level.Expression) ⋅ one (codes ";")

  pub spell_block : Block → Texts
  spell_block no_stmts = []
  spell_block (stmt_and s ss) = spell_stmt s ⋅ spell_block ss

  -- left out where the block is empty
  pub spell_else : Block → Texts
  spell_else no_stmts = []
  spell_else (stmt_and s ss) = one (codes "else") ⋅ braces (spell_stmt s ⋅ spell_block ss)

  -- a generator's block, left out where it has no statements
  pub spell_body : Block → Texts
  spell_body no_stmts = []
  spell_body (stmt_and s ss) = braces (spell_stmt s ⋅ spell_block ss)

  pub spell_bound : BoundTree → Texts
  spell_bound (tree.dot s) = one (codes ".")
  spell_bound (tree.at e) = spell e level.Sum

  pub spell_gen : Gen → Texts
  spell_gen (gen l lc i u uc step width b e s) =
      parens (spell_bound l ⋅ one (bound_sign lc) ⋅ index_texts i ⋅ one (bound_sign uc) ⋅ spell_bound u
      ⋅ spell_maybe step (codes "step") ⋅ spell_maybe width (codes "width"))
      ⋅ spell_body b ⋅ one (codes ":") ⋅ spell e level.Expression ⋅ one (codes ";")

  pub spell_gens : Gens → Texts
  spell_gens no_gens = []
  spell_gens (gen_and g gs) = spell_gen g ⋅ spell_gens gs

  pub spell_operation : OperationTree → Texts
  spell_operation (tree.genarray e left_out s) = one (codes "genarray") ⋅ parens (spell e level.Expression)
  spell_operation (tree.genarray e (given d) s) = one (codes "genarray") ⋅ parens (spell e level.Expression ⋅ comma ⋅ spell d level.Expression)
  spell_operation (tree.modarray e s) = one (codes "modarray") ⋅ parens (spell e level.Expression)
  spell_operation (tree.fold o e s) = one (codes "fold") ⋅ parens (one (operator_text o) ⋅ comma ⋅ spell e level.Expression)

-- a default behind the shape
abbrev pub spell_default : MaybeExpr → Texts
spell_default left_out = []
spell_default (given d) = comma ⋅ spell d level.Expression

-- an index between its brackets
abbrev pub spell_index : Expr → Texts
spell_index (tree.literal (expr_and x (expr_and y es)) u) = spell x level.Expression ⋅ comma ⋅ spell y level.Expression ⋅ spell_more es
spell_index e = spell e level.Expression

abbrev pub base_text : Base → List ℕ
base_text Int = codes "int"
base_text Truth = codes "bool"

-- what stands between the brackets of a type
abbrev pub inside_texts : Part → Texts
inside_texts (Known ns) = commas (map (λ n. one (decimal n)) ns)
inside_texts (Rank n) = commas (replicate n (one (codes ".")))
inside_texts Plus = one (codes "+")
inside_texts Star = one (codes "*")

-- a known empty shape leaves no brackets
abbrev pub part_texts : Part → Texts
part_texts (Known []) = []
part_texts part = brackets (inside_texts part)

abbrev pub type_texts : ArrayType → Texts
type_texts ty = one (base_text ty.base) ⋅ part_texts ty.part

abbrev pub param_texts : Param → Texts
param_texts p = type_texts p.ty ⋅ one p.name

abbrev pub inline_texts : Bool → Texts
inline_texts inline = if inline then one (codes "inline") else []

abbrev pub function_texts : FunctionTree → Texts
function_texts f =
    inline_texts f.inline ⋅ commas (map type_texts f.results) ⋅ one f.name ⋅ parens (commas (map param_texts f.params))
    ⋅ braces (spell_block f.body ⋅ one (codes "return") ⋅ parens (spell_list f.values) ⋅ one (codes ";"))

abbrev pub functions_texts : List FunctionTree → Texts
functions_texts [] = []
functions_texts (f ∷ fs) = function_texts f ⋅ functions_texts fs

-- the texts of a program's tokens
abbrev pub program_texts : ProgramTree → Texts
program_texts p = functions_texts p.functions

-- the canonical text of a program
abbrev pub canonical : ProgramTree → List ℕ
canonical p = written (program_texts p)

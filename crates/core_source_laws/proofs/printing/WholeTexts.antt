-- Each text of a tree that fits is one that the lexer cuts out whole, by induction on the tree.
use Rattle.std.proofs.Common.{ℕ, zero, suc, ◌<◌, ◌^◌, Bool, true, false, cond, List, [], ◌∷◌, ◌++◌, map, replicate, pos, negsuc, codes}
use Rattle.std.specs.List.{AllByRecursion}
use Rattle.std.specs.Fmt.{decimal}
use Rattle.sac_base.specs.declared.base.Base.{Base}
use Rattle.sac_base.specs.declared.base.Base.TheVariants as base
use Rattle.sac_base.specs.declared.types.ArrayType.{ArrayType}
use Rattle.sac_base.specs.declared.types.Part.{Part}
use Rattle.sac_base.specs.declared.types.Part.TheVariants.{Known, Rank, Plus, Star}
use Rattle.sac_ast.specs.declared.Target.{Target}
use Rattle.sac_ast.specs.declared.Param.{Param}
use Rattle.sac_ast.specs.declared.Builtin.{Builtin}
use Rattle.sac_ast.specs.declared.Builtin.TheVariants as built
use Rattle.sac_ast.specs.Tree as tree
use Rattle.sac_ast.specs.Tree.{IndexTree, named, parts, Expr, Exprs, no_exprs, expr_and, MaybeExpr, left_out, given, Stmt, Block, no_stmts, stmt_and, BoundTree, Gen, gen, Gens, no_gens, gen_and, OperationTree, FunctionTree, ProgramTree}
use Rattle.sac_print.specs.declared.level.Level.{Level}
use Rattle.sac_print.specs.declared.level.Level.TheVariants as level
use Rattle.sac_print.specs.Texts.{Texts, one, commas}
use Rattle.sac_print.specs.Operators.{operator_text, builtin_text, is_function, level_of, tighter, is_looser, opening, closing}
use Rattle.sac_print.specs.Canonical.{parens, brackets, braces, target_texts, targets_texts, index_texts, bound_sign, truth_text, spell, spell_list, spell_more, spell_maybe, spell_stmt, spell_block, spell_else, spell_body, spell_bound, spell_gen, spell_gens, spell_operation, base_text, part_texts, type_texts, param_texts, inline_texts, function_texts, functions_texts, program_texts}
use Rattle.core_source_laws.proofs.printing.Fits.{Fits, FitAll, FitsMaybe, FitsStmt, FitBlock, FitsBound, FitsGen, FitGens, FitsOperation, FitsTarget, FitTargets, FitsIndex, FitsPart, FitsType, FitsParam, FitResults, FitValues, FitsFunction, FitsProgram}
use Rattle.core_source_laws.proofs.printing.Pieces as piece
use Rattle.core_source_laws.proofs.printing.Pieces.{Piece, Pieces, both}

in_parens : (a : Texts) → Pieces a → Pieces (parens a)
in_parens a p = (piece.open_paren, both a _ p (piece.close_paren, tt))

in_brackets : (a : Texts) → Pieces a → Pieces (brackets a)
in_brackets a p = (piece.left_bracket, both a _ p (piece.right_bracket, tt))

in_braces : (a : Texts) → Pieces a → Pieces (braces a)
in_braces a p = (piece.left_brace, both a _ p (piece.right_brace, tt))

opens : (b : Bool) → Pieces (opening b)
opens true = (piece.open_paren, tt)
opens false = tt

closes : (b : Bool) → Pieces (closing b)
closes true = (piece.close_paren, tt)
closes false = tt

with_commas : {A : Type 0} (f : A → Texts) (P : A → Type 0) → ((x : A) → P x → Pieces (f x)) → (xs : List A) → AllByRecursion P xs → Pieces (commas (map f xs))
with_commas f P g [] h = tt
with_commas f P g (x ∷ []) h = g x h.0
with_commas f P g (x ∷ y ∷ xs) h = both (f x) _ (g x h.0) (piece.comma_sign, with_commas f P g (y ∷ xs) h.1)

target_pieces : (t : Target) → FitsTarget t → Pieces (target_texts t)
target_pieces t h = (piece.name_piece t.name h, tt)

targets_pieces : (ts : List Target) → FitTargets ts → Pieces (targets_texts ts)
targets_pieces [] h = absurd h
targets_pieces (t ∷ ts) h = with_commas target_texts FitsTarget target_pieces (t ∷ ts) h

index_pieces : (i : IndexTree) → FitsIndex i → Pieces (index_texts i)
index_pieces (named t) h = target_pieces t h
index_pieces (parts ts) h = in_brackets (targets_texts ts) (targets_pieces ts h)

bound_piece : (b : Bool) → Piece (bound_sign b)
bound_piece true = piece.at_most
bound_piece false = piece.below

truth_piece : (b : Bool) → Piece (truth_text b)
truth_piece true = piece.word_true
truth_piece false = piece.word_false

builtin_piece : (b : Builtin) → Piece (builtin_text b)
builtin_piece built.Dim = piece.word_dim
builtin_piece built.Shape = piece.word_shape
builtin_piece built.Reshape = piece.word_reshape

either : (b : Bool) (x y : Texts) → Pieces x → Pieces y → Pieces (cond b x y)
either true x y p q = p
either false x y p q = q

-- a value that is bound
valued : (a : Texts) → Pieces a → Pieces (codes "=" ∷ (a ++ (codes ";" ∷ [])))
valued a p = (piece.equals, both a _ p (piece.semicolon, tt))

mutual
  pub expr : (e : Expr) → Fits e → (l : Level) → Pieces (spell e l)
  expr (tree.number (pos n) s) h l = (piece.number_piece n h, tt)
  expr (tree.number (negsuc n) s) h l = absurd h
  expr (tree.truth b s) h l = (truth_piece b, tt)
  expr (tree.variable x s) h l = (piece.name_piece x h, tt)
  expr (tree.literal es s) h l = in_brackets (spell_list es) (list es h)
  expr (tree.unary o e s) h l = both (opening (is_looser level.Prefix l)) _ (opens _) (piece.operator_piece o, both (spell e level.Prefix) _ (expr e h.1 level.Prefix) (closes _))
  expr (tree.binary o a b s) h l =
      either (is_function o) _ _
      (piece.operator_piece o, in_parens _ (both (spell a level.Expression) _ (expr a h.1 level.Expression) (piece.comma_sign, expr b h.2 level.Expression)))
      (both (opening (is_looser (level_of o) l)) _ (opens _) (both (spell a (level_of o)) _ (expr a h.1 (level_of o)) (piece.operator_piece o, both (spell b (tighter (level_of o))) _ (expr b h.2 (tighter (level_of o))) (closes _))))
  expr (tree.choice c a b s) h l =
      both (opening (is_looser level.Expression l)) _ (opens _)
      (both (spell c level.Disjunction) _ (expr c h.0 level.Disjunction) (piece.question, both (spell a level.Expression) _ (expr a h.1 level.Expression) (piece.colon, both (spell b level.Expression) _ (expr b h.2 level.Expression) (closes _))))
  expr (tree.select a (tree.literal (expr_and x (expr_and y es)) u) s) h l =
      both (spell a level.Postfix) _ (expr a h.0 level.Postfix)
      (in_brackets _ (both (spell x level.Expression) _ (expr x h.1.0 level.Expression) (piece.comma_sign, both (spell y level.Expression) _ (expr y h.1.1.0 level.Expression) (more es h.1.1.1))))
  expr (tree.select a i s) h l = both (spell a level.Postfix) _ (expr a h.0 level.Postfix) (in_brackets (spell i level.Expression) (expr i h.1 level.Expression))
  expr (tree.call x es s) h l = (piece.name_piece x h.0, in_parens (spell_list es) (list es h.1))
  expr (tree.builtin b es s) h l = (builtin_piece b, in_parens (spell_list es) (list es h.1))
  expr (tree.with_loop gs o s) h l = (piece.word_with, both (braces (spell_gens gs)) _ (in_braces (spell_gens gs) (generators gs h.0)) (piece.colon, operation o h.1))

  list : (es : Exprs) → FitAll es → Pieces (spell_list es)
  list no_exprs h = tt
  list (expr_and e es) h = both (spell e level.Expression) _ (expr e h.0 level.Expression) (more es h.1)

  more : (es : Exprs) → FitAll es → Pieces (spell_more es)
  more no_exprs h = tt
  more (expr_and e es) h = (piece.comma_sign, both (spell e level.Expression) _ (expr e h.0 level.Expression) (more es h.1))

  maybe : (m : MaybeExpr) → FitsMaybe m → (word : List ℕ) → Piece word → Pieces (spell_maybe m word)
  maybe left_out h word p = tt
  maybe (given e) h word p = (p, expr e h level.Sum)

  statement : (s : Stmt) → FitsStmt s → Pieces (spell_stmt s)
  statement (tree.assign ts e) h = both (targets_texts ts) _ (targets_pieces ts h.0) (valued (spell e level.Expression) (expr e h.1 level.Expression))
  statement (tree.replace t s (tree.literal (expr_and x (expr_and y es)) u) e) h =
      (piece.name_piece t.name h.0, both (brackets (spell x level.Expression ++ (codes "," ∷ (spell y level.Expression ++ spell_more es)))) (codes "=" ∷ (spell e level.Expression ++ (codes ";" ∷ []))) (in_brackets _ (both (spell x level.Expression) _ (expr x h.1.0 level.Expression) (piece.comma_sign, both (spell y level.Expression) _ (expr y h.1.1.0 level.Expression) (more es h.1.1.1)))) (valued (spell e level.Expression) (expr e h.2 level.Expression)))
  statement (tree.replace t s i e) h =
      (piece.name_piece t.name h.0, both (brackets (spell i level.Expression)) (codes "=" ∷ (spell e level.Expression ++ (codes ";" ∷ []))) (in_brackets (spell i level.Expression) (expr i h.1 level.Expression)) (valued (spell e level.Expression) (expr e h.2 level.Expression)))
  statement (tree.if_else c a b s) h = (piece.word_if, both (parens (spell c level.Expression)) _ (in_parens (spell c level.Expression) (expr c h.0 level.Expression)) (both (braces (spell_block a)) _ (in_braces (spell_block a) (block a h.1)) (other b h.2)))
  statement (tree.while_do c b s) h = (piece.word_while, both (parens (spell c level.Expression)) _ (in_parens (spell c level.Expression) (expr c h.0 level.Expression)) (in_braces (spell_block b) (block b h.1)))
  statement (tree.do_while b c s u) h = (piece.word_do, both (braces (spell_block b)) _ (in_braces (spell_block b) (block b h.0)) (piece.word_while, both (parens (spell c level.Expression)) _ (in_parens (spell c level.Expression) (expr c h.1 level.Expression)) (piece.semicolon, tt)))

  block : (b : Block) → FitBlock b → Pieces (spell_block b)
  block no_stmts h = tt
  block (stmt_and s ss) h = both (spell_stmt s) _ (statement s h.0) (block ss h.1)

  other : (b : Block) → FitBlock b → Pieces (spell_else b)
  other no_stmts h = tt
  other (stmt_and s ss) h = (piece.word_else, in_braces _ (both (spell_stmt s) _ (statement s h.0) (block ss h.1)))

  body : (b : Block) → FitBlock b → Pieces (spell_body b)
  body no_stmts h = tt
  body (stmt_and s ss) h = in_braces _ (both (spell_stmt s) _ (statement s h.0) (block ss h.1))

  bound : (b : BoundTree) → FitsBound b → Pieces (spell_bound b)
  bound (tree.dot s) h = (piece.dot_sign, tt)
  bound (tree.at e) h = expr e h level.Sum

  generator : (g : Gen) → FitsGen g → Pieces (spell_gen g)
  generator (gen l lc i u uc s w b e site) h =
      both (parens _) _
      (in_parens _ (both (spell_bound l) _ (bound l h.0) (bound_piece lc, both (index_texts i) _ (index_pieces i h.1) (bound_piece uc, both (spell_bound u) _ (bound u h.2) (both (spell_maybe s (codes "step")) _ (maybe s h.3 (codes "step") piece.word_step) (maybe w h.4 (codes "width") piece.word_width))))))
      (both (spell_body b) _ (body b h.5) (piece.colon, both (spell e level.Expression) _ (expr e h.6 level.Expression) (piece.semicolon, tt)))

  generators : (gs : Gens) → FitGens gs → Pieces (spell_gens gs)
  generators no_gens h = tt
  generators (gen_and g gs) h = both (spell_gen g) _ (generator g h.0) (generators gs h.1)

  operation : (o : OperationTree) → FitsOperation o → Pieces (spell_operation o)
  operation (tree.genarray e left_out s) h = (piece.word_genarray, in_parens (spell e level.Expression) (expr e h.0 level.Expression))
  operation (tree.genarray e (given d) s) h = (piece.word_genarray, in_parens _ (both (spell e level.Expression) _ (expr e h.0 level.Expression) (piece.comma_sign, expr d h.1 level.Expression)))
  operation (tree.modarray e s) h = (piece.word_modarray, in_parens (spell e level.Expression) (expr e h level.Expression))
  operation (tree.fold o e s) h = (piece.word_fold, in_parens (operator_text o ∷ codes "," ∷ spell e level.Expression) (piece.operator_piece o, (piece.comma_sign, expr e h.1 level.Expression)))

base_piece : (b : Base) → Piece (base_text b)
base_piece base.Int = piece.word_int
base_piece base.Bool = piece.word_bool

dots : (n : ℕ) → Pieces (commas (replicate n (one (codes "."))))
dots zero = tt
dots (suc zero) = (piece.dot_sign, tt)
dots (suc (suc n)) = (piece.dot_sign, (piece.comma_sign, dots (suc n)))

part_pieces : (p : Part) → FitsPart p → Pieces (part_texts p)
part_pieces (Known []) h = tt
part_pieces (Known (n ∷ ns)) h = in_brackets _ (with_commas (λ m. one (decimal m)) (λ m. m < 2 ^ 31) (λ m k. (piece.number_piece m k, tt)) (n ∷ ns) h.1)
part_pieces (Rank n) h = in_brackets _ (dots n)
part_pieces Plus h = in_brackets (one (codes "+")) (piece.plus, tt)
part_pieces Star h = in_brackets (one (codes "*")) (piece.star, tt)

type_pieces : (ty : ArrayType) → FitsType ty → Pieces (type_texts ty)
type_pieces ty h = (base_piece ty.base, part_pieces ty.part h)

types_pieces : (ts : List ArrayType) → FitResults ts → Pieces (commas (map type_texts ts))
types_pieces [] h = absurd h
types_pieces (t ∷ ts) h = with_commas type_texts FitsType type_pieces (t ∷ ts) h

param_pieces : (p : Param) → FitsParam p → Pieces (param_texts p)
param_pieces p h = both (type_texts p.ty) _ (type_pieces p.ty h.0) (piece.name_piece p.name h.1, tt)

inline_pieces : (b : Bool) → Pieces (inline_texts b)
inline_pieces true = (piece.word_inline, tt)
inline_pieces false = tt

values_pieces : (es : Exprs) → FitValues es → Pieces (spell_list es)
values_pieces no_exprs h = tt
values_pieces (expr_and e es) h = list (expr_and e es) h

function_pieces : (f : FunctionTree) → FitsFunction f → Pieces (function_texts f)
function_pieces f h =
    both (inline_texts f.inline) _ (inline_pieces f.inline) (both (commas (map type_texts f.results)) _ (types_pieces f.results h.results) (
      piece.name_piece f.name h.name,
      both (parens (commas (map param_texts f.params))) _ (in_parens _ (with_commas param_texts FitsParam param_pieces f.params h.params))
          (in_braces _ (both (spell_block f.body) _ (block f.body h.body) (piece.word_return, both (parens (spell_list f.values)) _ (in_parens _ (values_pieces f.values h.values)) (piece.semicolon, tt)))),
    ))

functions_pieces : (fs : List FunctionTree) → AllByRecursion FitsFunction fs → Pieces (functions_texts fs)
functions_pieces [] h = tt
functions_pieces (f ∷ fs) h = both (function_texts f) _ (function_pieces f h.0) (functions_pieces fs h.1)

pub program_pieces : (p : ProgramTree) → FitsProgram p → Pieces (program_texts p)
program_pieces p h = functions_pieces p.functions h

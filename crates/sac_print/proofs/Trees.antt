-- The texts of trees as the texts of their parts.
use Rattle.std.proofs.Common.{ℕ, ◌≡◌, ◌<◌, ◌≤◌, Bool, true, false, cond, List, [], ◌∷◌, ◌++◌, length, map, pos, Result, Vec, Global, subst, refl, sym, ap, ◌∙◌, codes, arith, append-nil}
use Rattle.std.specs.Fmt.{decimal, signed_decimal}
use Rattle.sac_base.specs.declared.site.Site.{Site}
use Rattle.sac_base.specs.declared.op.Op.{Op}
use Rattle.sac_base.specs.declared.types.Part.TheVariants.{Known}
use Rattle.sac_base.specs.declared.types.ArrayType.{ArrayType}
use Rattle.sac_ast.specs.declared.Param.{Param}
use Rattle.sac_ast.specs.declared.Target.{Target}
use Rattle.sac_ast.specs.declared.Expression.{Expression, Expression-F, out-Expression, roll-Expression, roll-out-Expression}
use Rattle.sac_ast.specs.declared.Expression.TheVariants as expression
use Rattle.sac_ast.specs.declared.Expression.TheVariants.{rolls-Literal}
use Rattle.sac_ast.specs.declared.Bound.{Bound}
use Rattle.sac_ast.proofs.Views.{expression_opened, expression_layer}
use Rattle.sac_ast.specs.declared.Statement.{Statement}
use Rattle.sac_ast.specs.declared.Generator.{Generator}
use Rattle.sac_ast.specs.declared.Function.{Function}
use Rattle.sac_ast.specs.declared.Operation.{Operation}
use Rattle.sac_base.specs.declared.memory.Memory.{Memory}
use Rattle.sac_ast.specs.Tree
use Rattle.sac_ast.specs.Tree.{Expr, Exprs, no_exprs, expr_and, MaybeExpr, left_out, given, Stmt, Block, no_stmts, stmt_and, OperationTree}
use Rattle.sac_ast.specs.View.{expr, exprs, stmt, block, generator, generators, function, functions, operation}
use Rattle.sac_print.specs.declared.level.Level.{Level}
use Rattle.sac_print.specs.declared.level.Level.TheVariants as level
use Rattle.sac_print.specs.Texts.{Texts, ◌⋅◌, one, comma, commas, Prints}
use Rattle.sac_print.specs.Operators.{is_function, operator_text, level_of, tighter, is_looser, opening, closing}
use Rattle.sac_print.specs.Canonical.{parens, brackets, braces, spell, spell_index, spell_list, spell_stmt, spell_block, spell_else, spell_body, spell_gen, spell_gens, spell_operation, spell_default, function_texts, functions_texts, target_texts, targets_texts, inside_texts, part_texts, type_texts, param_texts}
use Rattle.sac_print.proofs.Printing.{joined}

-- an expression in a list
abbrev pub element : Expression → Texts
element e = spell (expr e) level.Expression

pub list_is : (es : List Expression) → spell_list (exprs es) ≡ commas (map element es)
list_is [] = refl
list_is (e ∷ []) = append-nil (element e)
list_is (e ∷ f ∷ es) = ap (λ l. element e ++ (comma ++ l)) (list_is (f ∷ es))

abbrev pub spell_statement : Statement → Texts
spell_statement s = spell_stmt (stmt s)

pub block_is : (ss : List Statement) → spell_block (block ss) ≡ joined spell_statement ss
block_is [] = refl
block_is (s ∷ ss) = ap (λ l. spell_statement s ++ l) (block_is ss)

abbrev pub spell_generator : Generator → Texts
spell_generator g = spell_gen (generator g)

pub generators_are : (gs : List Generator) → spell_gens (generators gs) ≡ joined spell_generator gs
generators_are [] = refl
generators_are (g ∷ gs) = ap (λ l. spell_generator g ++ l) (generators_are gs)

abbrev pub spell_function : Function → Texts
spell_function f = function_texts (function f)

pub functions_are : (fs : List Function) → functions_texts (functions fs) ≡ joined spell_function fs
functions_are [] = refl
functions_are (f ∷ fs) = ap (λ l. spell_function f ++ l) (functions_are fs)

pub select_is : (a i : Expr) (s : Site) (wanted : Level) → spell (Tree.select a i s) wanted ≡ spell a level.Postfix ⋅ brackets (spell_index i)
select_is a (Tree.number n u) s wanted = refl
select_is a (Tree.truth b u) s wanted = refl
select_is a (Tree.variable x u) s wanted = refl
select_is a (Tree.literal no_exprs u) s wanted = refl
select_is a (Tree.literal (expr_and x no_exprs) u) s wanted = refl
select_is a (Tree.literal (expr_and x (expr_and y es)) u) s wanted = refl
select_is a (Tree.unary o e u) s wanted = refl
select_is a (Tree.binary o e f u) s wanted = refl
select_is a (Tree.choice c e f u) s wanted = refl
select_is a (Tree.select e f u) s wanted = refl
select_is a (Tree.call x es u) s wanted = refl
select_is a (Tree.builtin b es u) s wanted = refl
select_is a (Tree.with_loop gs o u) s wanted = refl

pub replace_is : (t : Target) (u : Site) (i e : Expr) → spell_stmt (Tree.replace t u i e) ≡ target_texts t ⋅ brackets (spell_index i) ⋅ one (codes "=") ⋅ spell e level.Expression ⋅ one (codes ";")
replace_is t v (Tree.number n u) f = refl
replace_is t v (Tree.truth b u) f = refl
replace_is t v (Tree.variable x u) f = refl
replace_is t v (Tree.literal no_exprs u) f = refl
replace_is t v (Tree.literal (expr_and x no_exprs) u) f = refl
replace_is t v (Tree.literal (expr_and x (expr_and y es)) u) f = refl
replace_is t v (Tree.unary o e u) f = refl
replace_is t v (Tree.binary o e g u) f = refl
replace_is t v (Tree.choice c e g u) f = refl
replace_is t v (Tree.select e g u) f = refl
replace_is t v (Tree.call x es u) f = refl
replace_is t v (Tree.builtin b es u) f = refl
replace_is t v (Tree.with_loop gs o u) f = refl

pub long_index_is : (es : List Expression) (s : Site) → 1 < length es → spell_index (Tree.literal (exprs es) s) ≡ spell_list (exprs es)
long_index_is [] s h = absurd (omega arith)
long_index_is (x ∷ []) s h = absurd (omega arith)
long_index_is (x ∷ y ∷ es) s h = refl

pub short_index_is : (es : List Expression) (s : Site) → length es ≤ 1 → spell_index (Tree.literal (exprs es) s) ≡ spell (Tree.literal (exprs es) s) level.Expression
short_index_is [] s h = refl
short_index_is (x ∷ []) s h = refl
short_index_is (x ∷ y ∷ es) s h = absurd (omega arith)

pub genarray_is : (e : Expr) (d : MaybeExpr) (s : Site) → spell_operation (Tree.genarray e d s) ≡ one (codes "genarray") ⋅ parens (spell e level.Expression ⋅ spell_default d)
genarray_is e left_out s = ap (λ l. one (codes "genarray") ⋅ parens l) (sym (append-nil (spell e level.Expression)))
genarray_is e (given d) s = refl

pub else_is : (b : List Statement) → 0 < length b → spell_else (block b) ≡ one (codes "else") ⋅ braces (spell_block (block b))
else_is [] h = absurd (omega arith)
else_is (s ∷ ss) h = refl

pub no_else_is : (b : List Statement) → length b ≡ 0 → spell_else (block b) ≡ []
no_else_is [] h = refl
no_else_is (s ∷ ss) h = absurd (omega arith)

pub body_is : (b : List Statement) → 0 < length b → spell_body (block b) ≡ braces (spell_block (block b))
body_is [] h = absurd (omega arith)
body_is (s ∷ ss) h = refl

pub no_body_is : (b : List Statement) → length b ≡ 0 → spell_body (block b) ≡ []
no_body_is [] h = refl
no_body_is (s ∷ ss) h = absurd (omega arith)

pub function_is : (o : Op) (a b : Expr) (s : Site) (wanted : Level) → is_function o ≡ true → spell (Tree.binary o a b s) wanted ≡ one (operator_text o) ⋅ parens (spell a level.Expression ⋅ comma ⋅ spell b level.Expression)
function_is o a b s wanted h =
    ap (λ c. cond c (one (operator_text o) ⋅ parens (spell a level.Expression ⋅ comma ⋅ spell b level.Expression)) (opening (is_looser (level_of o) wanted) ⋅ spell a (level_of o) ⋅ one (operator_text o) ⋅ spell b (tighter (level_of o)) ⋅ closing (is_looser (level_of o) wanted))) h

pub infix_is : (o : Op) (a b : Expr) (s : Site) (wanted : Level) → is_function o ≡ false → spell (Tree.binary o a b s) wanted ≡ opening (is_looser (level_of o) wanted) ⋅ spell a (level_of o) ⋅ one (operator_text o) ⋅ spell b (tighter (level_of o)) ⋅ closing (is_looser (level_of o) wanted)
infix_is o a b s wanted h = ap (λ c. cond c (one (operator_text o) ⋅ parens (spell a level.Expression ⋅ comma ⋅ spell b level.Expression)) (opening (is_looser (level_of o) wanted) ⋅ spell a (level_of o) ⋅ one (operator_text o) ⋅ spell b (tighter (level_of o)) ⋅ closing (is_looser (level_of o) wanted))) h

-- extents, as the numbers that they are in the code
pub extents_are : (ns : List ℕ) → map (λ n. one (signed_decimal n)) (map pos ns) ≡ map (λ n. one (decimal n)) ns
extents_are [] = refl
extents_are (n ∷ ns) = ap (λ l. one (decimal n) ∷ l) (extents_are ns)

pub empty_part_is : (ns : List ℕ) → length ns ≡ 0 → part_texts (Known ns) ≡ []
empty_part_is [] h = refl
empty_part_is (n ∷ ns) h = absurd (omega arith)

pub known_part_is : (ns : List ℕ) → 0 < length ns → part_texts (Known ns) ≡ brackets (inside_texts (Known ns))
known_part_is [] h = absurd (omega arith)
known_part_is (n ∷ ns) h = refl

-- no literal is written as a list
pub other_index_is : (e : Expression) → ((es : Vec Expression Global) (s : Site) → e ≡ expression.Literal es s → ⊥) → spell_index (expr e) ≡ spell (expr e) level.Expression
other_index_is e h = by_layer (out-Expression e) refl
  where
    by_layer : (l : Expression-F Bound Expression Operation Statement Generator) → out-Expression e ≡ l → spell_index (expr e) ≡ spell (expr e) level.Expression
    by_layer (Expression-F.Literal es s) is = absurd (h es s (sym (roll-out-Expression e) ∙ ap roll-Expression is ∙ rolls-Literal es s))
    by_layer (Expression-F.Number n s) is = rw (expression_opened e ∙ ap expression_layer is) refl
    by_layer (Expression-F.Truth b s) is = rw (expression_opened e ∙ ap expression_layer is) refl
    by_layer (Expression-F.Variable x s) is = rw (expression_opened e ∙ ap expression_layer is) refl
    by_layer (Expression-F.Unary o a s) is = rw (expression_opened e ∙ ap expression_layer is) refl
    by_layer (Expression-F.Binary o a b s) is = rw (expression_opened e ∙ ap expression_layer is) refl
    by_layer (Expression-F.Choice a b d s) is = rw (expression_opened e ∙ ap expression_layer is) refl
    by_layer (Expression-F.Select a i s) is = rw (expression_opened e ∙ ap expression_layer is) refl
    by_layer (Expression-F.Call x es s) is = rw (expression_opened e ∙ ap expression_layer is) refl
    by_layer (Expression-F.Builtin b es s) is = rw (expression_opened e ∙ ap expression_layer is) refl
    by_layer (Expression-F.With gs o s) is = rw (expression_opened e ∙ ap expression_layer is) refl

-- the texts of a value by its view
pub seen : {e f : Expression} {t : Expr} (wanted : Level) → e ≡ f → expr f ≡ t → spell (expr e) wanted ≡ spell t wanted
seen wanted p q = ap (λ x. spell (expr x) wanted) p ∙ ap (λ x. spell x wanted) q

pub seen_index : {e f : Expression} {t : Expr} → e ≡ f → expr f ≡ t → spell_index (expr e) ≡ spell_index t
seen_index p q = ap (λ x. spell_index (expr x)) p ∙ ap spell_index q

pub seen_stmt : {e f : Statement} {t : Stmt} → e ≡ f → stmt f ≡ t → spell_stmt (stmt e) ≡ spell_stmt t
seen_stmt p q = ap (λ x. spell_stmt (stmt x)) p ∙ ap spell_stmt q

pub seen_operation : {e f : Operation} {t : OperationTree} → e ≡ f → operation f ≡ t → spell_operation (operation e) ≡ spell_operation t
seen_operation p q = ap (λ x. spell_operation (operation x)) p ∙ ap spell_operation q

-- what a slice of a list holds
module _ {r : Result (Unit {0}) Memory} {old new : List ℕ} where
  pub listed : {es fs : List Expression} → fs ≡ es → Prints r old new (spell_list (exprs fs)) → Prints r old new (spell_list (exprs es))
  listed e h = subst (λ l. Prints r old new (spell_list (exprs l))) e h

  pub in_block : {es fs : List Statement} → fs ≡ es → Prints r old new (braces (spell_block (block fs))) → Prints r old new (braces (spell_block (block es)))
  in_block e h = subst (λ l. Prints r old new (braces (spell_block (block l)))) e h

  pub in_else : {es fs : List Statement} → fs ≡ es → Prints r old new (spell_else (block fs)) → Prints r old new (spell_else (block es))
  in_else e h = subst (λ l. Prints r old new (spell_else (block l))) e h

  pub in_body : {es fs : List Statement} → fs ≡ es → Prints r old new (spell_body (block fs)) → Prints r old new (spell_body (block es))
  in_body e h = subst (λ l. Prints r old new (spell_body (block l))) e h

  pub in_statements : {es fs : List Statement} → fs ≡ es → Prints r old new (spell_block (block fs)) → Prints r old new (spell_block (block es))
  in_statements e h = subst (λ l. Prints r old new (spell_block (block l))) e h

  pub in_targets : {es fs : List Target} → fs ≡ es → Prints r old new (targets_texts fs) → Prints r old new (targets_texts es)
  in_targets e h = subst (λ l. Prints r old new (targets_texts l)) e h

  pub in_gens : {es fs : List Generator} → fs ≡ es → Prints r old new (spell_gens (generators fs)) → Prints r old new (spell_gens (generators es))
  in_gens e h = subst (λ l. Prints r old new (spell_gens (generators l))) e h

  pub boxed : {e f : Expression} (wanted : Level) → f ≡ e → Prints r old new (spell (expr f) wanted) → Prints r old new (spell (expr e) wanted)
  boxed wanted is h = subst (λ x. Prints r old new (spell (expr x) wanted)) is h

  pub boxed_index : {e f : Expression} → f ≡ e → Prints r old new (spell_index (expr f)) → Prints r old new (spell_index (expr e))
  boxed_index is h = subst (λ x. Prints r old new (spell_index (expr x))) is h

  pub boxed_operation : {e f : Operation} → f ≡ e → Prints r old new (spell_operation (operation f)) → Prints r old new (spell_operation (operation e))
  boxed_operation is h = subst (λ x. Prints r old new (spell_operation (operation x))) is h

  pub needed : {a b : Bool} → a ≡ b → Prints r old new (opening a) → Prints r old new (opening b)
  needed is h = subst (λ x. Prints r old new (opening x)) is h

  pub needed_end : {a b : Bool} → a ≡ b → Prints r old new (closing a) → Prints r old new (closing b)
  needed_end is h = subst (λ x. Prints r old new (closing x)) is h

  pub at_level : (e : Expression) {a b : Level} → a ≡ b → Prints r old new (spell (expr e) a) → Prints r old new (spell (expr e) b)
  at_level e is h = subst (λ x. Prints r old new (spell (expr e) x)) is h

  pub in_types : {es fs : List ArrayType} → fs ≡ es → Prints r old new (commas (map type_texts fs)) → Prints r old new (commas (map type_texts es))
  in_types e h = subst (λ l. Prints r old new (commas (map type_texts l))) e h

  pub in_params : {es fs : List Param} → fs ≡ es → Prints r old new (commas (map param_texts fs)) → Prints r old new (commas (map param_texts es))
  in_params e h = subst (λ l. Prints r old new (commas (map param_texts l))) e h

-- The tree of a value, from the trees of its parts.
use Rattle.std.proofs.Common.{◌≡◌, ap, ◌∙◌, Vec, Box, Global, Bool, ℤ, Option, Some, None}
use Rattle.sac_base.specs.declared.site.Site.{Site}
use Rattle.sac_base.specs.declared.op.Op.{Op}
use Rattle.sac_base.specs.declared.name.Name.{Name}
use Rattle.sac_ast.specs.declared.Builtin.{Builtin}
use Rattle.sac_ast.specs.declared.Target.{Target}
use Rattle.sac_ast.specs.declared.Expression.{Expression, Expression-F, out-Expression, map-Expression, fold_out-Expression}
use Rattle.sac_ast.specs.declared.Expression.TheVariants as expression
use Rattle.sac_ast.specs.declared.Statement.{Statement, Statement-F, out-Statement, map-Statement, fold_out-Statement}
use Rattle.sac_ast.specs.declared.Statement.TheVariants as statement
use Rattle.sac_ast.specs.declared.Operation.{Operation, Operation-F, out-Operation, map-Operation, fold_out-Operation}
use Rattle.sac_ast.specs.declared.Operation.TheVariants as operation
use Rattle.sac_ast.specs.declared.Bound.{Bound, Bound-F, out-Bound, map-Bound, fold_out-Bound}
use Rattle.sac_ast.specs.declared.Bound.TheVariants as bound
use Rattle.sac_ast.specs.declared.Generator.{Generator, fold_out-Generator}
use Rattle.sac_ast.specs.declared.Index.{Index}
use Rattle.sac_ast.specs.Tree
use Rattle.sac_ast.specs.View

abbrev pub expression_layer : Expression-F Bound Expression Operation Statement Generator → Tree.Expr
expression_layer l = View.expression_step (map-Expression _ _ _ _ _ _ _ _ _ _ View.bound View.expr View.operation View.stmt View.generator l)

abbrev statement_layer : Statement-F Bound Expression Operation Statement Generator → Tree.Stmt
statement_layer l = View.statement_step (map-Statement _ _ _ _ _ _ _ _ _ _ View.bound View.expr View.operation View.stmt View.generator l)

abbrev operation_layer : Operation-F Bound Expression Operation Statement Generator → Tree.OperationTree
operation_layer l = View.operation_step (map-Operation _ _ _ _ _ _ _ _ _ _ View.bound View.expr View.operation View.stmt View.generator l)

abbrev bound_layer : Bound-F Bound Expression Operation Statement Generator → Tree.BoundTree
bound_layer l = View.bound_step (map-Bound _ _ _ _ _ _ _ _ _ _ View.bound View.expr View.operation View.stmt View.generator l)

pub expression_opened : (e : Expression) → View.expr e ≡ expression_layer (out-Expression e)
expression_opened e = fold_out-Expression _ _ _ _ _ _ _ _ _ _ e

statement_opened : (e : Statement) → View.stmt e ≡ statement_layer (out-Statement e)
statement_opened e = fold_out-Statement _ _ _ _ _ _ _ _ _ _ e

operation_opened : (e : Operation) → View.operation e ≡ operation_layer (out-Operation e)
operation_opened e = fold_out-Operation _ _ _ _ _ _ _ _ _ _ e

bound_opened : (e : Bound) → View.bound e ≡ bound_layer (out-Bound e)
bound_opened e = fold_out-Bound _ _ _ _ _ _ _ _ _ _ e

pub expr_number : (n : ℤ) (site : Site) → View.expr (expression.Number n site) ≡ Tree.number n site
expr_number n site = expression_opened _ ∙ ap expression_layer (expression.outs-Number n site)

pub expr_truth : (b : Bool) (site : Site) → View.expr (expression.Truth b site) ≡ Tree.truth b site
expr_truth b site = expression_opened _ ∙ ap expression_layer (expression.outs-Truth b site)

pub expr_variable : (name : Name) (site : Site) → View.expr (expression.Variable name site) ≡ Tree.variable name site
expr_variable name site = expression_opened _ ∙ ap expression_layer (expression.outs-Variable name site)

pub expr_literal : (es : Vec Expression Global) (site : Site) → View.expr (expression.Literal es site) ≡ Tree.literal (View.exprs es.items) site
expr_literal es site = expression_opened _ ∙ ap expression_layer (expression.outs-Literal es site)

pub expr_unary : (op : Op) (e : Box Expression Global) (site : Site) → View.expr (expression.Unary op e site) ≡ Tree.unary op (View.expr e.value) site
expr_unary op e site = expression_opened _ ∙ ap expression_layer (expression.outs-Unary op e site)

pub expr_binary : (op : Op) (e f : Box Expression Global) (site : Site) → View.expr (expression.Binary op e f site) ≡ Tree.binary op (View.expr e.value) (View.expr f.value) site
expr_binary op e f site = expression_opened _ ∙ ap expression_layer (expression.outs-Binary op e f site)

pub expr_choice : (c e f : Box Expression Global) (site : Site) → View.expr (expression.Choice c e f site) ≡ Tree.choice (View.expr c.value) (View.expr e.value) (View.expr f.value) site
expr_choice c e f site = expression_opened _ ∙ ap expression_layer (expression.outs-Choice c e f site)

pub expr_select : (e f : Box Expression Global) (site : Site) → View.expr (expression.Select e f site) ≡ Tree.select (View.expr e.value) (View.expr f.value) site
expr_select e f site = expression_opened _ ∙ ap expression_layer (expression.outs-Select e f site)

pub expr_call : (name : Name) (es : Vec Expression Global) (site : Site) → View.expr (expression.Call name es site) ≡ Tree.call name (View.exprs es.items) site
expr_call name es site = expression_opened _ ∙ ap expression_layer (expression.outs-Call name es site)

pub expr_builtin : (b : Builtin) (es : Vec Expression Global) (site : Site) → View.expr (expression.Builtin b es site) ≡ Tree.builtin b (View.exprs es.items) site
expr_builtin b es site = expression_opened _ ∙ ap expression_layer (expression.outs-Builtin b es site)

pub expr_with : (gs : Vec Generator Global) (op : Box Operation Global) (site : Site) → View.expr (expression.With gs op site) ≡ Tree.with_loop (View.generators gs.items) (View.operation op.value) site
expr_with gs op site = expression_opened _ ∙ ap expression_layer (expression.outs-With gs op site)

pub stmt_assign : (targets : Vec Target Global) (e : Expression) → View.stmt (statement.Assign targets e) ≡ Tree.assign targets.items (View.expr e)
stmt_assign targets e = statement_opened _ ∙ ap statement_layer (statement.outs-Assign targets e)

pub stmt_replace : (target : Target) (bracket : Site) (i e : Expression) → View.stmt (statement.Replace target bracket i e) ≡ Tree.replace target bracket (View.expr i) (View.expr e)
stmt_replace target bracket i e = statement_opened _ ∙ ap statement_layer (statement.outs-Replace target bracket i e)

pub stmt_if : (c : Expression) (first second : Vec Statement Global) (site : Site) → View.stmt (statement.If c first second site) ≡ Tree.if_else (View.expr c) (View.block first.items) (View.block second.items) site
stmt_if c first second site = statement_opened _ ∙ ap statement_layer (statement.outs-If c first second site)

pub stmt_while : (c : Expression) (body : Vec Statement Global) (site : Site) → View.stmt (statement.While c body site) ≡ Tree.while_do (View.expr c) (View.block body.items) site
stmt_while c body site = statement_opened _ ∙ ap statement_layer (statement.outs-While c body site)

pub stmt_do : (body : Vec Statement Global) (c : Expression) (site test : Site) → View.stmt (statement.Do body c site test) ≡ Tree.do_while (View.block body.items) (View.expr c) site test
stmt_do body c site test = statement_opened _ ∙ ap statement_layer (statement.outs-Do body c site test)

abbrev generator_of : Bound → Bool → Index → Bound → Bool → Option Expression → Option Expression → Vec Statement Global → Expression → Site → Generator
generator_of l lc i u uc step width body cell site = record { lower = l; lower_closed = lc; index = i; upper = u; upper_closed = uc; step = step; width = width; body = body; cell = cell; site = site }

generator_at : (l : Bound) (lc : Bool) (i : Index) (u : Bound) (uc : Bool) (step width : Option Expression) (body : Vec Statement Global) (cell : Expression) (site : Site) → View.generator (generator_of l lc i u uc step width body cell site) ≡ Tree.gen (View.bound l) lc (View.index_view i) (View.bound u) uc (View.maybe step) (View.maybe width) (View.block body.items) (View.expr cell) site
generator_at l lc i u uc None None body cell site = fold_out-Generator _ _ _ _ _ _ _ _ _ _ (generator_of l lc i u uc None None body cell site)
generator_at l lc i u uc None (Some w) body cell site = fold_out-Generator _ _ _ _ _ _ _ _ _ _ (generator_of l lc i u uc None (Some w) body cell site)
generator_at l lc i u uc (Some s) None body cell site = fold_out-Generator _ _ _ _ _ _ _ _ _ _ (generator_of l lc i u uc (Some s) None body cell site)
generator_at l lc i u uc (Some s) (Some w) body cell site = fold_out-Generator _ _ _ _ _ _ _ _ _ _ (generator_of l lc i u uc (Some s) (Some w) body cell site)

pub generator_is : (g : Generator) → View.generator g ≡ Tree.gen (View.bound g.lower) g.lower_closed (View.index_view g.index) (View.bound g.upper) g.upper_closed (View.maybe g.step) (View.maybe g.width) (View.block g.body.items) (View.expr g.cell) g.site
generator_is g = generator_at g.lower g.lower_closed g.index g.upper g.upper_closed g.step g.width g.body g.cell g.site

operation_genarray_at : (shape : Expression) (default : Option Expression) (site : Site) → View.operation (operation.Genarray shape default site) ≡ Tree.genarray (View.expr shape) (View.maybe default) site
operation_genarray_at shape None site = operation_opened _ ∙ ap operation_layer (operation.outs-Genarray shape None site)
operation_genarray_at shape (Some d) site = operation_opened _ ∙ ap operation_layer (operation.outs-Genarray shape (Some d) site)

pub operation_genarray : (shape : Expression) (default : Option Expression) (site : Site) → View.operation (operation.Genarray shape default site) ≡ Tree.genarray (View.expr shape) (View.maybe default) site
operation_genarray = operation_genarray_at

pub operation_modarray : (array : Expression) (site : Site) → View.operation (operation.Modarray array site) ≡ Tree.modarray (View.expr array) site
operation_modarray array site = operation_opened _ ∙ ap operation_layer (operation.outs-Modarray array site)

pub operation_fold : (op : Op) (neutral : Expression) (site : Site) → View.operation (operation.Fold op neutral site) ≡ Tree.fold op (View.expr neutral) site
operation_fold op neutral site = operation_opened _ ∙ ap operation_layer (operation.outs-Fold op neutral site)

pub bound_dot : (site : Site) → View.bound (bound.Dot site) ≡ Tree.dot site
bound_dot site = bound_opened _ ∙ ap bound_layer (bound.outs-Dot site)

pub bound_given : (e : Expression) → View.bound (bound.Given e) ≡ Tree.at (View.expr e)
bound_given e = bound_opened _ ∙ ap bound_layer (bound.outs-Given e)

-- a tree from the trees of its parts
pub ruleset views = (expr_number, expr_truth, expr_variable, expr_literal, expr_unary, expr_binary, expr_choice, expr_select, expr_call, expr_builtin, expr_with, stmt_assign, stmt_replace, stmt_if, stmt_while, stmt_do, generator_is, operation_genarray, operation_modarray, operation_fold, bound_dot, bound_given)

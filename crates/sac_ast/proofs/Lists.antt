-- Lists of trees: how high they are, and what is left of them from a place on.
use Rattle.std.proofs.Common.{◌≡◌, ℕ, suc, ◌+◌, ◌<◌, List, length, get_or, drop, Option, Some, None, ap, ◌∙◌, arith}
use Rattle.std.proofs.Math.Seq.{drop-cons}
use denote.Param.Weighed.{most}
use Rattle.sac_ast.specs.declared.Expression.{Expression, size-Expression}
use Rattle.sac_ast.specs.declared.Statement.{Statement, size-Statement}
use Rattle.sac_ast.specs.declared.Generator.{Generator, size-Generator}
use Rattle.sac_ast.specs.Tree
use Rattle.sac_ast.specs.View.{expr, exprs, generator, generators}

abbrev pub exprs_size : List Expression → ℕ
exprs_size es = most (λ e. size-Expression e) es

abbrev pub block_size : List Statement → ℕ
block_size ss = most (λ s. size-Statement s) ss

abbrev pub cells_size : List Generator → ℕ
cells_size gs = most (λ g. size-Generator g) gs

abbrev pub maybe_size : Option Expression → ℕ
maybe_size None = 0
maybe_size (Some e) = size-Expression e

pub exprs-drop : (es : List Expression) (i : ℕ) (d : Expression) → i < length es → exprs (drop i es) ≡ Tree.expr_and (expr (get_or es i d)) (exprs (drop (i + 1) es))
exprs-drop es i d h =
    let next : suc i ≡ i + 1 = omega arith in
    ap exprs (drop-cons es i d h) ∙ ap (λ n. Tree.expr_and (expr (get_or es i d)) (exprs (drop n es))) next

pub generators-drop : (gs : List Generator) (i : ℕ) (d : Generator) → i < length gs → generators (drop i gs) ≡ Tree.gen_and (generator (get_or gs i d)) (generators (drop (i + 1) gs))
generators-drop gs i d h =
    let next : suc i ≡ i + 1 = omega arith in
    ap generators (drop-cons gs i d h) ∙ ap (λ n. Tree.gen_and (generator (get_or gs i d)) (generators (drop n gs))) next

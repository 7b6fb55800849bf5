-- Where no rule is violated, each variable that is used is bound on every path, and each call has as many targets as results.
use Rattle.std.proofs.Common.{◌≡◌, ℕ, Bool, true, not, ◌||◌, ◌&&◌, List, [], ◌∷◌, ◌++◌, length, Option, Some, None, is_some, refl, ap, sym, subst, ◌∙◌}
use Rattle.std.specs.Prelude.{◌==◌}
use Rattle.std.proofs.lemmas.Bool.{eqb-true}
use Rattle.sac_base.specs.declared.base.Base.{Base}
use Rattle.sac_base.specs.declared.base.Base.TheVariants.{Int, Bool as Truth}
use Rattle.sac_base.specs.declared.name.Name.{Name}
use Rattle.sac_base.specs.declared.site.Site.{Site}
use Rattle.check_rules.specs.declared.code.CheckCode.TheVariants.{C2, C3, C4, C8}
use Rattle.sac_ast.specs.declared.Target.{Target}
use Rattle.sac_ast.specs.Tree.{IndexTree, named, parts, Expr, Exprs, no_exprs, expr_and, MaybeExpr, left_out, given, Stmt, Block, no_stmts, stmt_and, BoundTree, dot, at, Gen, gen, Gens, no_gens, gen_and, OperationTree, FunctionTree, number, truth, variable, literal, unary, binary, choice, select, call, builtin, with_loop, assign, replace, if_else, while_do, do_while, genarray, modarray, fold}
use Rattle.sac_ast.specs.Bases.{may_be, may_match, operand_base, operands_fit, agree, all_known, first_named}
use Rattle.check_rules.specs.Accepted.{Names, Known, Place, Findings, unless, call_rules, numbers_fit, some_takes, stands_earlier, use_rules, builtin_rules, cell_rules, first_cell, is_fold, several_targets, repeated_targets, bind, base_of}
use Rattle.check_rules.specs.Accepted as a
use Rattle.source_meaning.specs.Meaning.{names}
use Rattle.core_lowering.specs.Definite.{AtMostOne, IsDefinite, AreDefinite, MaybeDefinite, BoundDefinite, GenDefinite, GensDefinite, OperationDefinite, StmtDefinite, BlockDefinite}
use Rattle.core_lowering.specs.Definite as d
use Rattle.core_lowering.specs.Programs.{count_in, result_count}
use Rattle.core_lowering.specs.acceptance.Formed.{IsFormed, AreFormed, MaybeFormed, BoundFormed, GenFormed, GensFormed, OperationFormed, StmtFormed, BlockFormed}
use Rattle.core_lowering.proofs.acceptance.Clean.{nil_left, nil_right, nil2, nil3, nil4, nil5, nil8, holds, both, used_bound}

-- ---- the same names are bound

mutual
  pub after_same : (s : Stmt) (bound : Names) → a.bound_after s bound ≡ d.bound_after s bound
  after_same (assign targets e) bound = refl
  after_same (replace target bracket index e) bound = refl
  after_same (if_else c first second site) bound = λ i name. behind_same first bound i name && behind_same second bound i name
  after_same (while_do c body site) bound = refl
  after_same (do_while body c site test) bound = behind_same body bound

  pub behind_same : (b : Block) (bound : Names) → a.bound_behind b bound ≡ d.bound_behind b bound
  behind_same no_stmts bound = refl
  behind_same (stmt_and s rest) bound = behind_same rest (a.bound_after s bound) ∙ ap (d.bound_behind rest) (after_same s bound)

pub inside_same : (index : IndexTree) (bound : Names) → a.with_names (a.index_names index) bound ≡ d.with_names (names (d.index_targets index)) bound
inside_same (named target) bound = refl
inside_same (parts targets) bound = refl

-- ---- numbers of targets

at_most_one : (targets : List Target) → several_targets targets ≡ [] → AtMostOne targets
at_most_one [] h = tt
at_most_one (target ∷ []) h = tt
at_most_one (first ∷ second ∷ rest) h = absurd (cc)

results_of : (g : Option FunctionTree) (args results : ℕ) → is_some g ≡ true → numbers_fit g args results ≡ true → results ≡ count_in g
results_of None args results e h = absurd (cc)
results_of (Some g) args results e h = sym (eqb-true (length g.results) results (both (length g.params == args) (length g.results == results) h).1)

-- a call that violates no rule has as many targets as results, and its arguments violate none
pub call_clean : (p : Place) (name : Name) (results : ℕ) (site : Site) (args : Findings) → (a.in_call p name results site args).violations ≡ [] → (args.violations ≡ []) × (results ≡ result_count p.functions name)
call_clean p name results site args h =
    let g = first_named p.functions name in
    let r = nil2 (call_rules p name args.bases results site) args.violations h in
    let q = nil4 (unless (is_some g) C2 site) (unless (numbers_fit g (length args.bases) results) C3 site) (unless (not (is_some g) || some_takes p.functions name (all_known args.bases)) C4 site) (unless (stands_earlier p name) C8 site) r.0 in
    (r.1, results_of g (length args.bases) results (holds (is_some g) C2 site q.0) (holds (numbers_fit g (length args.bases) results) C3 site q.1))

-- ---- phrases

module _ (p : Place) where
  mutual
    pub definite : (e : Expr) (bound : Names) (known : Known) → IsFormed e → (a.in_value p e bound known).violations ≡ [] → IsDefinite (result_count p.functions) e bound
    definite (number z site) bound known f h = tt
    definite (truth b site) bound known f h = tt
    definite (variable name site) bound known f h = used_bound p name site bound (nil_left (use_rules p name site bound) [] h)
    definite (literal es site) bound known f h =
        let elements = a.in_values p es bound known in
        definite_all es bound known f (nil_right (unless (agree elements.bases) C4 site) elements.violations h)
    definite (unary op e site) bound known f h =
        let operand = a.in_value p e bound known in
        definite e bound known f.1 (nil_right (unless (may_be (operand_base op) operand.base) C4 site) operand.violations h)
    definite (binary op e e' site) bound known f h =
        let left = a.in_value p e bound known in
        let right = a.in_value p e' bound left.known in
        let r = nil2 left.violations right.violations (nil_right (unless (operands_fit op left.base right.base) C4 site) (left.violations ++ right.violations) h) in
        (definite e bound known f.1 r.0, definite e' bound left.known f.2 r.1)
    definite (choice c e e' site) bound known f h =
        let test = a.in_value p c bound known in
        let first = a.in_value p e bound test.known in
        let second = a.in_value p e' bound first.known in
        let inside = test.violations ++ first.violations ++ second.violations in
        let r = nil3 test.violations first.violations second.violations (nil_right (unless (may_be Truth test.base && may_match first.base second.base) C4 site) inside h) in
        (definite c bound known f.0 r.0, definite e bound test.known f.1 r.1, definite e' bound first.known f.2 r.2)
    definite (select e i site) bound known f h =
        let array = a.in_value p e bound known in
        let index = a.in_value p i bound array.known in
        let r = nil2 array.violations index.violations (nil_right (unless (may_be Int index.base) C4 site) (array.violations ++ index.violations) h) in
        (definite e bound known f.0 r.0, definite i bound array.known f.1 r.1)
    definite (call name es site) bound known f h =
        definite_all es bound known f (call_clean p name 1 site (a.in_values p es bound known) h).0
    definite (builtin b es site) bound known f h =
        let args = a.in_values p es bound known in
        definite_all es bound known f.1 (nil_right (builtin_rules b args.bases site) args.violations h)
    definite (with_loop gs op site) bound known f h =
        let generators = a.in_generators p gs (is_fold op) bound known in
        let cells = a.in_operation p op (first_cell generators.cells) bound generators.known in
        let r = nil2 generators.violations cells.violations (nil_right (cell_rules cells.base generators.cells) (generators.violations ++ cells.violations) h) in
        (definite_gens gs (is_fold op) bound known f.0 r.0, definite_operation op (first_cell generators.cells) bound generators.known f.1 r.1)

    pub definite_all : (es : Exprs) (bound : Names) (known : Known) → AreFormed es → (a.in_values p es bound known).violations ≡ [] → AreDefinite (result_count p.functions) es bound
    definite_all no_exprs bound known f h = tt
    definite_all (expr_and e es) bound known f h =
        let first = a.in_value p e bound known in
        let r = nil2 first.violations (a.in_values p es bound first.known).violations h in
        (definite e bound known f.0 r.0, definite_all es bound first.known f.1 r.1)

    definite_maybe : (e : MaybeExpr) (other : Option Base) (bound : Names) (known : Known) → MaybeFormed e → (a.in_maybe p e other bound known).violations ≡ [] → MaybeDefinite (result_count p.functions) e bound
    definite_maybe left_out other bound known f h = tt
    definite_maybe (given e) other bound known f h = definite e bound known f h

    definite_bound : (e : BoundTree) (folds : Bool) (bound : Names) (known : Known) → BoundFormed e → (a.in_bound p e folds bound known).violations ≡ [] → BoundDefinite (result_count p.functions) e bound
    definite_bound (dot site) folds bound known f h = tt
    definite_bound (at e) folds bound known f h = definite e bound known f h

    definite_gen : (g : Gen) (folds : Bool) (bound : Names) (known : Known) → GenFormed g → (a.in_generator p g folds bound known).violations ≡ [] → GenDefinite (result_count p.functions) g bound
    definite_gen (gen lower lower_closed index upper upper_closed step width body cell site) folds bound known f h =
        let inside = a.with_names (a.index_names index) bound in
        let least = a.in_bound p lower folds bound known in
        let indices = a.in_index_names (a.index_targets index) least.known in
        let most = a.in_bound p upper folds bound indices.known in
        let steps = a.in_maybe p step (Some Int) bound most.known in
        let widths = a.in_maybe p width (Some Int) bound steps.known in
        let block = a.in_block p body inside widths.known in
        let value = a.in_value p cell (a.bound_behind body inside) block.known in
        let r = nil8 least.violations (repeated_targets (a.index_targets index)) indices.violations most.violations steps.violations widths.violations block.violations value.violations h in (
          definite_bound lower folds bound known f.1 r.0,
          definite_bound upper folds bound indices.known f.2 r.3,
          definite_maybe step (Some Int) bound most.known f.3 r.4,
          definite_maybe width (Some Int) bound steps.known f.4 r.5,
          f.0,
          subst (λ (n : Names). BlockDefinite (result_count p.functions) body n) (inside_same index bound) (definite_block body inside widths.known f.5 r.6),
          subst (λ (n : Names). IsDefinite (result_count p.functions) cell n) (behind_same body inside ∙ ap (d.bound_behind body) (inside_same index bound)) (definite cell (a.bound_behind body inside) block.known f.6 r.7),
        )

    definite_gens : (gs : Gens) (folds : Bool) (bound : Names) (known : Known) → GensFormed gs → (a.in_generators p gs folds bound known).violations ≡ [] → GensDefinite (result_count p.functions) gs bound
    definite_gens no_gens folds bound known f h = tt
    definite_gens (gen_and g gs) folds bound known f h =
        let first = a.in_generator p g folds bound known in
        let r = nil2 first.violations (a.in_generators p gs folds bound first.known).violations h in
        (definite_gen g folds bound known f.0 r.0, definite_gens gs folds bound first.known f.1 r.1)

    definite_operation : (op : OperationTree) (cell : Option Base) (bound : Names) (known : Known) → OperationFormed op → (a.in_operation p op cell bound known).violations ≡ [] → OperationDefinite (result_count p.functions) op bound
    definite_operation (genarray shape default site) cell bound known f h =
        let extents = a.in_value p shape bound known in
        let value = a.in_maybe p default cell bound extents.known in
        let r = nil3 (unless (may_be Int extents.base) C4 site) extents.violations value.violations h in
        (definite shape bound known f.0 r.1, definite_maybe default cell bound extents.known f.1 r.2)
    definite_operation (modarray array site) cell bound known f h = definite array bound known f h
    definite_operation (fold op neutral site) cell bound known f h =
        let value = a.in_value p neutral bound known in
        definite neutral bound known f.1 (nil_right (unless (operands_fit op value.base value.base) C4 site) value.violations h)

    definite_stmt : (s : Stmt) (bound : Names) (known : Known) → StmtFormed s → (a.in_statement p s bound known).violations ≡ [] → StmtDefinite (result_count p.functions) s bound
    definite_stmt (assign targets (call name es site)) bound known f h =
        let called = a.in_call p name (length targets) site (a.in_values p es bound known) in
        let rest = a.in_targets targets called.bases called.known in
        let r = call_clean p name (length targets) site (a.in_values p es bound known) (nil3 called.violations (repeated_targets targets) rest.violations h).0 in
        (definite_all es bound known f r.0, r.1)
    definite_stmt (assign targets e) bound known f h =
        let value = a.in_value p e bound known in
        let rest = a.in_targets targets (value.base ∷ []) value.known in
        let r = nil4 (several_targets targets) value.violations (repeated_targets targets) rest.violations h in
        (definite e bound known f r.1, at_most_one targets r.0)
    definite_stmt (replace target bracket index e) bound known f h =
        let place = a.in_value p index bound known in
        let value = a.in_value p e bound place.known in
        let here = bind target.name None value.known in
        let r = nil5 (use_rules p target.name target.site bound) (unless (may_be Int place.base) C4 bracket) (unless (may_match (base_of here target.name) value.base) C4 target.site) place.violations value.violations h in
        (used_bound p target.name target.site bound r.0, definite index bound known f.0 r.3, definite e bound place.known f.1 r.4)
    definite_stmt (if_else c first second site) bound known f h =
        let test = a.in_value p c bound known in
        let one = a.in_block p first bound test.known in
        let other = a.in_block p second bound one.known in
        let r = nil4 (unless (may_be Truth test.base) C4 site) test.violations one.violations other.violations h in
        (definite c bound known f.0 r.1, definite_block first bound test.known f.1 r.2, definite_block second bound one.known f.2 r.3)
    definite_stmt (while_do c body site) bound known f h =
        let test = a.in_value p c bound known in
        let turn = a.in_block p body bound test.known in
        let r = nil3 (unless (may_be Truth test.base) C4 site) test.violations turn.violations h in
        (definite c bound known f.0 r.1, definite_block body bound test.known f.1 r.2)
    definite_stmt (do_while body c site test) bound known f h =
        let turn = a.in_block p body bound known in
        let again = a.in_value p c (a.bound_behind body bound) turn.known in
        let r = nil3 turn.violations (unless (may_be Truth again.base) C4 test) again.violations h in
        (definite_block body bound known f.0 r.0, subst (λ (n : Names). IsDefinite (result_count p.functions) c n) (behind_same body bound) (definite c (a.bound_behind body bound) turn.known f.1 r.2))

    pub definite_block : (b : Block) (bound : Names) (known : Known) → BlockFormed b → (a.in_block p b bound known).violations ≡ [] → BlockDefinite (result_count p.functions) b bound
    definite_block no_stmts bound known f h = tt
    definite_block (stmt_and s rest) bound known f h =
        let first = a.in_statement p s bound known in
        let later = a.in_block p rest (a.bound_after s bound) first.known in
        let r = nil2 first.violations later.violations h in
        (definite_stmt s bound known f.0 r.0, subst (λ (n : Names). BlockDefinite (result_count p.functions) rest n) (after_same s bound) (definite_block rest (a.bound_after s bound) first.known f.1 r.1))

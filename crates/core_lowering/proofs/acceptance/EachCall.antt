-- What the rules of calls say of each call in a phrase that violates none.
use Rattle.std.proofs.Common.{◌≡◌, ℕ, Bool, ◌&&◌, List, [], ◌∷◌, ◌++◌, length, Option, Some, None}
use Rattle.sac_base.specs.declared.base.Base.{Base}
use Rattle.sac_base.specs.declared.base.Base.TheVariants.{Int, Bool as Truth}
use Rattle.sac_base.specs.declared.name.Name.{Name}
use Rattle.sac_base.specs.declared.site.Site.{Site}
use Rattle.check_rules.specs.declared.code.CheckCode.TheVariants.{C4}
use Rattle.sac_ast.specs.Tree.{Expr, Exprs, no_exprs, expr_and, MaybeExpr, left_out, given, Stmt, Block, no_stmts, stmt_and, BoundTree, dot, at, Gen, gen, Gens, no_gens, gen_and, OperationTree, number, truth, variable, literal, unary, binary, choice, select, call, builtin, with_loop, assign, replace, if_else, while_do, do_while, genarray, modarray, fold}
use Rattle.sac_ast.specs.Bases.{may_be, may_match, operand_base, operands_fit, agree}
use Rattle.check_rules.specs.Accepted.{Names, Known, Place, unless, call_rules, use_rules, builtin_rules, cell_rules, first_cell, is_fold, several_targets, repeated_targets, bind, base_of}
use Rattle.check_rules.specs.Accepted as a
use Rattle.core_lowering.specs.Standing.{CallsIn, CallsInAll, CallsInMaybe, CallsInBound, CallsInGen, CallsInGens, CallsInOperation, CallsInStmt, CallsInBlock}
use Rattle.core_lowering.proofs.acceptance.Clean.{nil_right, nil2, nil3, nil4, nil5, nil8}

module _ (p : Place) (P : Name → Type 0) (rule : (name : Name) (bs : List (Option Base)) (results : ℕ) (site : Site) → call_rules p name bs results site ≡ [] → P name) where
  mutual
    pub calls : (e : Expr) (bound : Names) (known : Known) → (a.in_value p e bound known).violations ≡ [] → CallsIn P e
    calls (number z site) bound known h = tt
    calls (truth b site) bound known h = tt
    calls (variable name site) bound known h = tt
    calls (literal es site) bound known h =
        let elements = a.in_values p es bound known in
        calls_all es bound known (nil_right (unless (agree elements.bases) C4 site) elements.violations h)
    calls (unary op e site) bound known h =
        let operand = a.in_value p e bound known in
        calls e bound known (nil_right (unless (may_be (operand_base op) operand.base) C4 site) operand.violations h)
    calls (binary op e e' site) bound known h =
        let left = a.in_value p e bound known in
        let right = a.in_value p e' bound left.known in
        let r = nil2 left.violations right.violations (nil_right (unless (operands_fit op left.base right.base) C4 site) (left.violations ++ right.violations) h) in
        (calls e bound known r.0, calls e' bound left.known r.1)
    calls (choice c e e' site) bound known h =
        let test = a.in_value p c bound known in
        let first = a.in_value p e bound test.known in
        let second = a.in_value p e' bound first.known in
        let inside = test.violations ++ first.violations ++ second.violations in
        let r = nil3 test.violations first.violations second.violations (nil_right (unless (may_be Truth test.base && may_match first.base second.base) C4 site) inside h) in
        (calls c bound known r.0, calls e bound test.known r.1, calls e' bound first.known r.2)
    calls (select e i site) bound known h =
        let array = a.in_value p e bound known in
        let index = a.in_value p i bound array.known in
        let r = nil2 array.violations index.violations (nil_right (unless (may_be Int index.base) C4 site) (array.violations ++ index.violations) h) in
        (calls e bound known r.0, calls i bound array.known r.1)
    calls (call name es site) bound known h =
        let args = a.in_values p es bound known in
        let r = nil2 (call_rules p name args.bases 1 site) args.violations h in
        (rule name args.bases 1 site r.0, calls_all es bound known r.1)
    calls (builtin b es site) bound known h =
        let args = a.in_values p es bound known in
        calls_all es bound known (nil_right (builtin_rules b args.bases site) args.violations h)
    calls (with_loop gs op site) bound known h =
        let generators = a.in_generators p gs (is_fold op) bound known in
        let cells = a.in_operation p op (first_cell generators.cells) bound generators.known in
        let r = nil2 generators.violations cells.violations (nil_right (cell_rules cells.base generators.cells) (generators.violations ++ cells.violations) h) in
        (calls_gens gs (is_fold op) bound known r.0, calls_operation op (first_cell generators.cells) bound generators.known r.1)

    pub calls_all : (es : Exprs) (bound : Names) (known : Known) → (a.in_values p es bound known).violations ≡ [] → CallsInAll P es
    calls_all no_exprs bound known h = tt
    calls_all (expr_and e es) bound known h =
        let first = a.in_value p e bound known in
        let r = nil2 first.violations (a.in_values p es bound first.known).violations h in
        (calls e bound known r.0, calls_all es bound first.known r.1)

    calls_maybe : (e : MaybeExpr) (other : Option Base) (bound : Names) (known : Known) → (a.in_maybe p e other bound known).violations ≡ [] → CallsInMaybe P e
    calls_maybe left_out other bound known h = tt
    calls_maybe (given e) other bound known h = calls e bound known h

    calls_bound : (e : BoundTree) (folds : Bool) (bound : Names) (known : Known) → (a.in_bound p e folds bound known).violations ≡ [] → CallsInBound P e
    calls_bound (dot site) folds bound known h = tt
    calls_bound (at e) folds bound known h = calls e bound known h

    calls_gen : (g : Gen) (folds : Bool) (bound : Names) (known : Known) → (a.in_generator p g folds bound known).violations ≡ [] → CallsInGen P g
    calls_gen (gen lower lower_closed index upper upper_closed step width body cell site) folds bound known h =
        let inside = a.with_names (a.index_names index) bound in
        let least = a.in_bound p lower folds bound known in
        let indices = a.in_index_names (a.index_targets index) least.known in
        let most = a.in_bound p upper folds bound indices.known in
        let steps = a.in_maybe p step (Some Int) bound most.known in
        let widths = a.in_maybe p width (Some Int) bound steps.known in
        let block = a.in_block p body inside widths.known in
        let value = a.in_value p cell (a.bound_behind body inside) block.known in
        let r = nil8 least.violations (repeated_targets (a.index_targets index)) indices.violations most.violations steps.violations widths.violations block.violations value.violations h in (
          calls_bound lower folds bound known r.0,
          calls_bound upper folds bound indices.known r.3,
          calls_maybe step (Some Int) bound most.known r.4,
          calls_maybe width (Some Int) bound steps.known r.5,
          calls_block body inside widths.known r.6,
          calls cell (a.bound_behind body inside) block.known r.7,
        )

    calls_gens : (gs : Gens) (folds : Bool) (bound : Names) (known : Known) → (a.in_generators p gs folds bound known).violations ≡ [] → CallsInGens P gs
    calls_gens no_gens folds bound known h = tt
    calls_gens (gen_and g gs) folds bound known h =
        let first = a.in_generator p g folds bound known in
        let r = nil2 first.violations (a.in_generators p gs folds bound first.known).violations h in
        (calls_gen g folds bound known r.0, calls_gens gs folds bound first.known r.1)

    calls_operation : (op : OperationTree) (cell : Option Base) (bound : Names) (known : Known) → (a.in_operation p op cell bound known).violations ≡ [] → CallsInOperation P op
    calls_operation (genarray shape default site) cell bound known h =
        let extents = a.in_value p shape bound known in
        let value = a.in_maybe p default cell bound extents.known in
        let r = nil3 (unless (may_be Int extents.base) C4 site) extents.violations value.violations h in
        (calls shape bound known r.1, calls_maybe default cell bound extents.known r.2)
    calls_operation (modarray array site) cell bound known h = calls array bound known h
    calls_operation (fold op neutral site) cell bound known h =
        let value = a.in_value p neutral bound known in
        calls neutral bound known (nil_right (unless (operands_fit op value.base value.base) C4 site) value.violations h)

    calls_stmt : (s : Stmt) (bound : Names) (known : Known) → (a.in_statement p s bound known).violations ≡ [] → CallsInStmt P s
    calls_stmt (assign targets (call name es site)) bound known h =
        let called = a.in_call p name (length targets) site (a.in_values p es bound known) in
        let rest = a.in_targets targets called.bases called.known in
        let args = a.in_values p es bound known in
        let r = nil2 (call_rules p name args.bases (length targets) site) args.violations (nil3 called.violations (repeated_targets targets) rest.violations h).0 in
        (rule name args.bases (length targets) site r.0, calls_all es bound known r.1)
    calls_stmt (assign targets e) bound known h =
        let value = a.in_value p e bound known in
        let rest = a.in_targets targets (value.base ∷ []) value.known in
        let r = nil4 (several_targets targets) value.violations (repeated_targets targets) rest.violations h in
        calls e bound known r.1
    calls_stmt (replace target bracket index e) bound known h =
        let place = a.in_value p index bound known in
        let value = a.in_value p e bound place.known in
        let here = bind target.name None value.known in
        let r = nil5 (use_rules p target.name target.site bound) (unless (may_be Int place.base) C4 bracket) (unless (may_match (base_of here target.name) value.base) C4 target.site) place.violations value.violations h in
        (calls index bound known r.3, calls e bound place.known r.4)
    calls_stmt (if_else c first second site) bound known h =
        let test = a.in_value p c bound known in
        let one = a.in_block p first bound test.known in
        let other = a.in_block p second bound one.known in
        let r = nil4 (unless (may_be Truth test.base) C4 site) test.violations one.violations other.violations h in
        (calls c bound known r.1, calls_block first bound test.known r.2, calls_block second bound one.known r.3)
    calls_stmt (while_do c body site) bound known h =
        let test = a.in_value p c bound known in
        let turn = a.in_block p body bound test.known in
        let r = nil3 (unless (may_be Truth test.base) C4 site) test.violations turn.violations h in
        (calls c bound known r.1, calls_block body bound test.known r.2)
    calls_stmt (do_while body c site test) bound known h =
        let turn = a.in_block p body bound known in
        let again = a.in_value p c (a.bound_behind body bound) turn.known in
        let r = nil3 turn.violations (unless (may_be Truth again.base) C4 test) again.violations h in
        (calls_block body bound known r.0, calls c (a.bound_behind body bound) turn.known r.2)

    pub calls_block : (b : Block) (bound : Names) (known : Known) → (a.in_block p b bound known).violations ≡ [] → CallsInBlock P b
    calls_block no_stmts bound known h = tt
    calls_block (stmt_and s rest) bound known h =
        let first = a.in_statement p s bound known in
        let later = a.in_block p rest (a.bound_after s bound) first.known in
        let r = nil2 first.violations later.violations h in
        (calls_stmt s bound known r.0, calls_block rest (a.bound_after s bound) first.known r.1)

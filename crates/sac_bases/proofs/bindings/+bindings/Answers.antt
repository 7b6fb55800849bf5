use Rattle.std.proofs.Common.{rules, ◌≡◌, ◌<◌, ◌+◌, ◌++◌, [], ◌∷◌, None, length, drop, sym, ap, ◌∙◌, subst}
use Rattle.std.proofs.lemmas.List.{drop_more}
use Rattle.std.specs.Prelude.{OnOk}
use Rattle.sac_ast.specs.Bases.{base, bases, index_bases, in_expr, in_exprs, in_maybe, in_bound, in_gen, in_gens, in_operation, in_stmt, in_block, with_bases, known_bases, call_bases_in}
use Rattle.sac_ast.specs.Tree
use Rattle.sac_ast.specs.View.{expr, exprs, stmt, block, bound, maybe, index_view, generator, generators, operation, functions}
use Rattle.sac_ast.proofs.Views.{expr_unary, expr_choice, expr_call, expr_with, stmt_assign, stmt_replace, stmt_if, stmt_while, stmt_do, generator_is, operation_genarray, operation_modarray, operation_fold}
use Rattle.sac_ast.proofs.Lists.{exprs-drop, generators-drop}
use Rattle.sac_bases.proofs.Steps.{assign_plain}
use Rattle.sac_bases.proofs.bindings.+bindings.Goals as goal

pub in_assign-returns-in_ok-base-in_default : goal.in_assign-returns-in_ok-base-in_default
in_assign-returns-in_ok-base-in_default t c =
    let a = c.args in
    let calls = call_bases_in (functions a.functions.now.all.now) in
    let targets = a.targets.now in
    let e = expr a.value.now in
    let last = c.in_expr.new.known.all.items in
    let whole =
    (λ i. with_bases targets (c.in_ok-base-in_default.ensures i ∷ []) last)
    ∙ ap (λ known. with_bases targets (base calls known e ∷ []) known) c.in_ok-in_expr-in_default.ensures
    ∙ sym (assign_plain calls targets a.value.now a.known.now.all.items c.in_default.not-Call) in
    subst (λ m. OnOk c.bind_targets.result (c.bind_targets.new.known.all.items ≡ m)) whole c.bind_targets.ensures

pub in_assign-returns-in_ok-bases-in-Call : goal.in_assign-returns-in_ok-bases-in-Call
in_assign-returns-in_ok-bases-in-Call t c =
    let a = c.args in
    let i = c.in-Call in
    let calls = call_bases_in (functions a.functions.now.all.now) in
    let targets = a.targets.now in
    let start = a.known.now.all.items in
    let last = c.in_exprs.new.known.all.items in
    let es = exprs i.es.items in
    let first = c.in_ok-in_exprs-in-Call.ensures ∙ ap (λ es. in_exprs calls (exprs es) start) c.deref.ensures.value in
    let found = c.deref-in-Call-2.ensures.value ∙ c.in_ok-bases-in-Call.ensures
    ∙ ap (λ es. bases calls last (exprs es)) c.deref-in-Call.ensures.value in
    let whole =
    ap (λ bs. with_bases targets (known_bases (calls i.name bs)) last) found
    ∙ ap (λ known. with_bases targets (known_bases (calls i.name (bases calls known es))) known) first
    ∙ sym (ap (λ e. in_stmt calls (Tree.assign targets e) start) (ap expr i.is ∙ expr_call i.name i.es i.field-2)) in
    subst (λ m. OnOk c.bind_results.result (c.bind_results.new.known.all.items ≡ m)) whole c.bind_results.ensures

pub in_expr-returns-in-Unary : goal.in_expr-returns-in-Unary
in_expr-returns-in-Unary t c =
    let calls = call_bases_in (functions c.args.functions.now.all.now) in
    let start = c.args.known.now.all.items in
    let i = c.in-Unary in
    subst (λ m. OnOk c.in_expr.result (c.in_expr.new.known.all.items ≡ m))
    (ap (λ e. in_expr calls (expr e) start) c.deref.ensures ∙ ap (λ x. in_expr calls x start) (sym (ap expr i.is ∙ expr_unary i.field-0 i.e i.field-2))) c.in_expr.ensures

pub in_expr-returns-in_ok-in_expr-in-Choice-2 : goal.in_expr-returns-in_ok-in_expr-in-Choice-2
in_expr-returns-in_ok-in_expr-in-Choice-2 t c =
    let calls = call_bases_in (functions c.args.functions.now.all.now) in
    let start = c.args.known.now.all.items in
    let i = c.in-Choice in
    let one = c.in_ok-in_expr-in-Choice.ensures ∙ (λ j. in_expr calls (expr (c.deref-in-Choice.ensures j)) start) in
    let two = c.in_ok-in_expr-in-Choice-2.ensures ∙ (λ j. in_expr calls (expr (c.deref-in-Choice-2.ensures j)) (one j)) in
    subst (λ m. OnOk c.in_expr-in-Choice-3.result (c.in_expr-in-Choice-3.new.known.all.items ≡ m))
    ((λ j. in_expr calls (expr (c.deref-in-Choice-3.ensures j)) (two j)) ∙ ap (λ x. in_expr calls x start) (sym (ap expr i.is ∙ expr_choice i.test i.first i.second i.field-3))) c.in_expr-in-Choice-3.ensures

pub in_expr-returns-in_ok-in_generators-in-With : goal.in_expr-returns-in_ok-in_generators-in-With
in_expr-returns-in_ok-in_generators-in-With t c =
    let calls = call_bases_in (functions c.args.functions.now.all.now) in
    let start = c.args.known.now.all.items in
    let i = c.in-With in
    let one = c.in_ok-in_generators-in-With.ensures ∙ (λ j. in_gens calls (generators (c.deref-in-With.ensures.value j)) start) in
    subst (λ m. OnOk c.in_operation.result (c.in_operation.new.known.all.items ≡ m))
    ((λ j. in_operation calls (operation (c.deref-in-With-2.ensures j)) (one j)) ∙ ap (λ x. in_expr calls x start) (sym (ap expr i.is ∙ expr_with i.gs i.op i.field-2))) c.in_operation.ensures

pub in_exprs-loop-e-preserved : goal.in_exprs-loop-e-preserved
in_exprs-loop-e-preserved t c =
    let calls = call_bases_in (functions c.args.functions.now.all.now) in
    let es = c.args.es.now in
    let k = c.loop-e.e-index in
    let below : k < length es = search rules in
    let next = exprs-drop es k c.e-item.result below ∙ ap (λ x. Tree.expr_and (expr x) (exprs (drop (k + 1) es))) (sym c.e-item.is) in
    (λ j. in_exprs calls (exprs (drop (k + 1) es)) (c.in_ok-in_expr.ensures j))
    ∙ ap (λ x. in_exprs calls x c.loop-e.known.all.items) (sym next) ∙ c.loop-e.invariant

pub in_generators-loop-g-preserved : goal.in_generators-loop-g-preserved
in_generators-loop-g-preserved t c =
    let calls = call_bases_in (functions c.args.functions.now.all.now) in
    let gs = c.args.gs.now in
    let k = c.loop-g.g-index in
    let below : k < length gs = search rules in
    let next = generators-drop gs k c.g-item.result below ∙ ap (λ x. Tree.gen_and (generator x) (generators (drop (k + 1) gs))) (sym c.g-item.is) in
    (λ j. in_gens calls (generators (drop (k + 1) gs)) (c.in_ok-in_generator.ensures j))
    ∙ ap (λ x. in_gens calls x c.loop-g.known.all.items) (sym next) ∙ c.loop-g.invariant

pub in_block-loop-s-preserved : goal.in_block-loop-s-preserved
in_block-loop-s-preserved t c =
    let calls = call_bases_in (functions c.args.functions.now.all.now) in
    let ss = c.args.ss.now in
    let k = c.loop-s.s-index in
    let below : k < length ss = search rules in
    let next = ap block (drop_more ss k c.s-item.result below) ∙ ap (λ x. Tree.stmt_and (stmt x) (block (drop (k + 1) ss))) (sym c.s-item.is) in
    (λ j. in_block calls (block (drop (k + 1) ss)) (c.in_ok-in_stmt.ensures j))
    ∙ ap (λ x. in_block calls x c.loop-s.known.all.items) (sym next) ∙ c.loop-s.invariant

pub in_generator-returns : goal.in_generator-returns
in_generator-returns t c =
    let calls = call_bases_in (functions c.args.functions.now.all.now) in
    let start = c.args.known.now.all.items in
    let g = c.args.g.now in
    subst (λ m. OnOk c.in_cell.result (c.in_cell.new.known.all.items ≡ m))
    ((λ j. in_expr calls (expr g.cell) (in_block calls (block g.body.items) (c.in_ok-in_bounds.ensures j))) ∙ ap (λ x. in_gen calls x start) (sym (generator_is g))) c.in_cell.ensures

pub in_cell-returns : goal.in_cell-returns
in_cell-returns t c =
    let calls = call_bases_in (functions c.args.functions.now.all.now) in
    let start = c.args.known.now.all.items in
    let g = c.args.g.now in
    let one = c.in_ok-in_block.ensures ∙ (λ j. in_block calls (block (c.deref.ensures.value j)) start) in
    subst (λ m. OnOk c.in_expr.result (c.in_expr.new.known.all.items ≡ m))
    (λ j. in_expr calls (expr g.cell) (one j)) c.in_expr.ensures

pub in_bounds-returns : goal.in_bounds-returns
in_bounds-returns t c =
    let calls = call_bases_in (functions c.args.functions.now.all.now) in
    let g = c.args.g.now in
    let one = c.in_ok-bind_index.ensures ∙ (λ j. c.in_ok-in_bound.ensures j ++ index_bases (index_view g.index)) in
    let two = c.in_ok-in_bound-2.ensures ∙ (λ j. in_bound calls (bound g.upper) (one j)) in
    let three = c.in_ok-in_maybe.ensures ∙ (λ j. in_maybe calls (maybe g.step) (two j)) in
    c.in_ok-in_maybe-2.ensures ∙ (λ j. in_maybe calls (maybe g.width) (three j))

pub in_operation-returns-in_ok-in_expr-in-Genarray : goal.in_operation-returns-in_ok-in_expr-in-Genarray
in_operation-returns-in_ok-in_expr-in-Genarray t c =
    let calls = call_bases_in (functions c.args.functions.now.all.now) in
    let start = c.args.known.now.all.items in
    let i = c.in-Genarray in
    subst (λ m. OnOk c.in_maybe.result (c.in_maybe.new.known.all.items ≡ m))
    ((λ j. in_maybe calls (maybe i.default) (c.in_ok-in_expr-in-Genarray.ensures j)) ∙ ap (λ x. in_operation calls x start) (sym (ap operation i.is ∙ operation_genarray i.shape i.default i.site))) c.in_maybe.ensures

pub in_operation-returns-in-Modarray : goal.in_operation-returns-in-Modarray
in_operation-returns-in-Modarray t c =
    let calls = call_bases_in (functions c.args.functions.now.all.now) in
    let start = c.args.known.now.all.items in
    let i = c.in-Modarray in
    subst (λ m. OnOk c.in_expr-in-Modarray.result (c.in_expr-in-Modarray.new.known.all.items ≡ m))
    (ap (λ x. in_operation calls x start) (sym (ap operation i.is ∙ operation_modarray i.array i.site))) c.in_expr-in-Modarray.ensures

pub in_operation-returns-in-Fold : goal.in_operation-returns-in-Fold
in_operation-returns-in-Fold t c =
    let calls = call_bases_in (functions c.args.functions.now.all.now) in
    let start = c.args.known.now.all.items in
    let i = c.in-Fold in
    subst (λ m. OnOk c.in_expr-in-Fold.result (c.in_expr-in-Fold.new.known.all.items ≡ m))
    (ap (λ x. in_operation calls x start) (sym (ap operation i.is ∙ operation_fold i.op i.neutral i.site))) c.in_expr-in-Fold.ensures

pub in_stmt-returns-in-Assign : goal.in_stmt-returns-in-Assign
in_stmt-returns-in-Assign t c =
    let calls = call_bases_in (functions c.args.functions.now.all.now) in
    let start = c.args.known.now.all.items in
    let i = c.in-Assign in
    subst (λ m. OnOk c.in_assign.result (c.in_assign.new.known.all.items ≡ m))
    ((λ j. in_stmt calls (Tree.assign (c.deref.ensures.value j) (expr i.value)) start) ∙ ap (λ x. in_stmt calls x start) (sym (ap stmt i.is ∙ stmt_assign i.targets i.value))) c.in_assign.ensures

pub in_stmt-returns-in_ok-in_expr-in-Replace-2 : goal.in_stmt-returns-in_ok-in_expr-in-Replace-2
in_stmt-returns-in_ok-in_expr-in-Replace-2 t c =
    let calls = call_bases_in (functions c.args.functions.now.all.now) in
    let start = c.args.known.now.all.items in
    let i = c.in-Replace in
    let two = c.in_ok-in_expr-in-Replace-2.ensures ∙ (λ j. in_expr calls (expr i.value) (c.in_ok-in_expr-in-Replace.ensures j)) in
    subst (λ m. OnOk c.bind.result (c.bind.new.self.all.items ≡ m))
    ((λ j. two j ++ record { name = i.target.name; base = None } ∷ []) ∙ ap (λ x. in_stmt calls x start) (sym (ap stmt i.is ∙ stmt_replace i.target i.bracket i.index i.value))) c.bind.ensures

pub in_stmt-returns-in_ok-in_block-in-If : goal.in_stmt-returns-in_ok-in_block-in-If
in_stmt-returns-in_ok-in_block-in-If t c =
    let calls = call_bases_in (functions c.args.functions.now.all.now) in
    let start = c.args.known.now.all.items in
    let i = c.in-If in
    let one = c.in_ok-in_block-in-If.ensures ∙ (λ j. in_block calls (block (c.deref-in-If.ensures.value j)) (c.in_ok-in_expr-in-If.ensures j)) in
    subst (λ m. OnOk c.in_block-in-If.result (c.in_block-in-If.new.known.all.items ≡ m))
    ((λ j. in_block calls (block (c.deref-in-If-2.ensures.value j)) (one j)) ∙ ap (λ x. in_stmt calls x start) (sym (ap stmt i.is ∙ stmt_if i.cond i.yes i.no i.site))) c.in_block-in-If.ensures

pub in_stmt-returns-in_ok-in_expr-in-While : goal.in_stmt-returns-in_ok-in_expr-in-While
in_stmt-returns-in_ok-in_expr-in-While t c =
    let calls = call_bases_in (functions c.args.functions.now.all.now) in
    let start = c.args.known.now.all.items in
    let i = c.in-While in
    subst (λ m. OnOk c.in_block-in-While.result (c.in_block-in-While.new.known.all.items ≡ m))
    ((λ j. in_block calls (block (c.deref-in-While.ensures.value j)) (c.in_ok-in_expr-in-While.ensures j)) ∙ ap (λ x. in_stmt calls x start) (sym (ap stmt i.is ∙ stmt_while i.cond i.body i.site))) c.in_block-in-While.ensures

pub in_stmt-returns-in_ok-in_block-in-Do : goal.in_stmt-returns-in_ok-in_block-in-Do
in_stmt-returns-in_ok-in_block-in-Do t c =
    let calls = call_bases_in (functions c.args.functions.now.all.now) in
    let start = c.args.known.now.all.items in
    let i = c.in-Do in
    let one = c.in_ok-in_block-in-Do.ensures ∙ (λ j. in_block calls (block (c.deref-in-Do.ensures.value j)) start) in
    subst (λ m. OnOk c.in_expr-in-Do.result (c.in_expr-in-Do.new.known.all.items ≡ m))
    ((λ j. in_expr calls (expr i.cond) (one j)) ∙ ap (λ x. in_stmt calls x start) (sym (ap stmt i.is ∙ stmt_do i.body i.cond i.site i.test))) c.in_expr-in-Do.ensures

use Rattle.std.proofs.Common.{rules, ◌≡◌, ◌+◌, ◌<◌, ◌≤◌, Some, true, false, sym, ap, ◌∙◌, subst, length, drop, get_or, map}
use Rattle.std.specs.Prelude.{IfOk, OnOk}
use Rattle.std.proofs.lemmas.List.{drop_all, drop_more}
use Rattle.sac_ast.specs.Tree
use Rattle.sac_ast.specs.View.{expr, exprs, generator, generators, operation, stmt, block, bound, maybe, index_view}
use Rattle.sac_ast.proofs.Views.{expr_variable, expr_literal, expr_unary, expr_binary, expr_choice, expr_select, expr_call, expr_builtin, expr_with, stmt_assign, stmt_replace, stmt_if, stmt_while, stmt_do, generator_is, operation_genarray, operation_modarray, operation_fold, bound_dot, bound_given}
use Rattle.sac_ast.proofs.Lists.{exprs-drop, generators-drop}
use Rattle.core_ir.specs.Terms.{PlainTerm, RightTerm, Plain}
use Rattle.core_ir.specs.View.{block_term, gen_term}
use Rattle.core_ir.specs.declared.tree.CoreOp.TheVariants as making
use Rattle.source_meaning.specs.Meaning.{default_base}
use Rattle.core_lowering.specs.Lowering.{built_in}
use Rattle.core_lowering.specs.steps.Looks.{with_var}
use Rattle.core_lowering.specs.steps.Building.{block_giving, block_of, bound_at, given_bound, nested, use_at}
use Rattle.core_lowering.specs.steps.Parts.{after_gens, after_list}
use Rattle.core_lowering.proofs.steps.Arms.{with_arm, assign_call_arm, assign_arm, generator_arm, genarray_arm}
use Rattle.core_lowering.proofs.steps.Steps.{all_step, list_end, gens_step, gens_end}
use Rattle.core_scopes.specs.Looks.{look, texts}
use Rattle.core_scopes.specs.Built.{built, made}
use Rattle.single_assign.specs.Views.{made_block, made_branch, made_gen, made_given, made_option, made_scope, group_in, base_of_in, name_base_in, make_in, make_all_in, make_maybe_in, make_bound_in, make_gen_in, make_gens_in, make_operation_in, make_inside_in, make_default_in, make_stmt_in, make_block_in, make_turn_in, make_if_in, make_while_in, make_do_in}
use Rattle.single_assign.specs.Turns.{joined_from}
use Rattle.core_scopes.proofs.Scopes.{on_ok_then}
use Rattle.single_assign.proofs.Loops.{gen_roll, not_call, terms_next}
use Rattle.single_assign.proofs.lower.+lowering.Goals as goal

pub lower-returns-in_ok-making-in-With : goal.lower-returns-in_ok-making-in-With
lower-returns-in_ok-making-in-With t c =
    let a = c.args in
    let w = c.in-With in
    let cx = a.cx.now in
    let l = look a.scope.now in
    let s = built a.out.now in
    let s1 = built c.lower_generators.new.out in
    let s2 = built c.lower_operation.new.out in
    let making = c.in_ok-making-in-With.making in
    let base = c.in_ok-base-in-With.base in
    let p = c.in_ok-gens-in-With.ensures ∙ ap (λ gs. make_gens_in cx (generators gs) l s) c.deref-in-With.ensures.value in
    let g = c.in_ok-base-in-With.ensures ∙ ap (λ gs. default_base (base_of_in cx) (generators gs)) c.deref-in-With-2.ensures.value in
    let q = c.in_ok-making-in-With.ensures ∙ ap (λ op. make_operation_in cx (operation op) base l s1) c.deref-in-With-3.ensures in
    let whole =
    with_arm (group_in cx) (base_of_in cx) (name_base_in cx) w.field-2 (generators w.gs.items) (operation w.op.value) l s p g q (λ i. bound_at s2 making.site (c.with_loop.ensures i))
    ∙ sym (ap (λ e. make_in cx e l s) (ap expr w.is ∙ expr_with w.gs w.op w.field-2)) in
    subst (λ m. IfOk c.bind-in-With.result (λ x. made (built c.bind-in-With.new.self) x ≡ m)) whole c.bind-in-With.ensures

pub lower_assign-returns-in_ok-vars-in-Call : goal.lower_assign-returns-in_ok-vars-in-Call
lower_assign-returns-in_ok-vars-in-Call t c =
    let a = c.args in
    let i = c.in-Call in
    let cx = a.cx.now in
    let l = look a.scope.now in
    let s = built a.out.now in
    let p = c.in_ok-args-in-Call.ensures ∙ ap (λ es. make_all_in cx (exprs es) l s) c.deref.ensures.value in
    let n = ap texts c.deref-in-Call.ensures.value ∙ c.in_ok-names-in-Call.ensures in
    let view = ap (λ e. make_stmt_in cx (Tree.assign a.targets.now e) l s) (ap expr i.is ∙ expr_call i.name i.es i.site) in
    on_ok_then c.push.result
    (λ put. assign_call_arm (group_in cx) (base_of_in cx) (name_base_in cx) a.targets.now i.name i.site (exprs i.es.items) l s p c.in_ok-group-in-Call.ensures n c.in_ok-vars-in-Call.ensures put ∙ sym view)
    c.push.ensures

pub lower_assign-returns-in_ok-x-in_default : goal.lower_assign-returns-in_ok-x-in_default
lower_assign-returns-in_ok-x-in_default t c =
    let a = c.args in
    let cx = a.cx.now in
    on_ok_then c.bind_first.result
    (λ k. assign_arm (group_in cx) (base_of_in cx) (name_base_in cx) a.targets.now (expr a.value.now) (look a.scope.now) (built a.out.now) (not_call a.value.now c.in_default.not-Call) c.in_ok-x-in_default.ensures k)
    c.bind_first.ensures

pub lower_generator-returns : goal.lower_generator-returns
lower_generator-returns t c =
    let a = c.args in
    let g = a.g.now in
    let cx = a.cx.now in
    let l = look a.scope.now in
    let s = built a.out.now in
    ap (made_gen (built c.lower_cell.new.out)) (gen_roll _)
    ∙ generator_arm (group_in cx) (base_of_in cx) (name_base_in cx) (bound g.lower) (bound g.upper) g.lower_closed g.upper_closed (maybe g.step) (maybe g.width) (index_view g.index) (block g.body.items) (expr g.cell) g.site l s
    c.in_ok-lower.ensures c.in_ok-upper.ensures c.in_ok-step.ensures c.in_ok-width.ensures c.in_ok-index.ensures c.inside-inside.ensures c.in_ok-names.ensures c.in_ok-body.ensures
    ∙ sym (ap (λ tree. make_gen_in cx tree l s) (generator_is g))

pub lower_generators-loop-g-preserved : goal.lower_generators-loop-g-preserved
lower_generators-loop-g-preserved t c =
    let a = c.args in
    let gs = a.gs.now in
    let cx = a.cx.now in
    let l = look a.scope.now in
    let k = c.loop-g.g-index in
    let s = built c.loop-g.out in
    let done = map gen_term c.loop-g.gens.items in
    let item = c.g-item.result in
    let below : k < length gs = search rules in
    let one = c.in_ok-generator.ensures ∙ ap (λ g. make_gen_in cx (generator g) l s) c.g-item.is in
    let left = (λ i. after_gens done (make_gens_in cx (sym (generators-drop gs k item below) i) l s)) ∙ c.loop-g.invariant in
    (λ i. after_gens (map gen_term (c.in_ok-push.ensures.items i)) (make_gens_in cx (generators (drop (k + 1) gs)) l (built c.lower_generator.new.out)))
    ∙ (λ i. after_gens (terms_next c.loop-g.gens.items c.in_ok-generator.generator i) (make_gens_in cx (generators (drop (k + 1) gs)) l (built c.lower_generator.new.out)))
    ∙ gens_step (group_in cx) (base_of_in cx) (name_base_in cx) done (generator (get_or gs k item)) (generators (drop (k + 1) gs)) l s one left

pub lower_generators-returns : goal.lower_generators-returns
lower_generators-returns t c =
    let a = c.args in
    let gs = a.gs.now in
    let cx = a.cx.now in
    let l = look a.scope.now in
    let k = c.loop-g.g-index in
    let s = built c.loop-g.out in
    let done = map gen_term c.loop-g.gens.items in
    let past : length gs ≤ k = search rules in
    gens_end done s ((λ i. after_gens done (make_gens_in cx (generators (sym (drop_all k gs past) i)) l s)) ∙ c.loop-g.invariant)

pub lower_operation-returns-in_ok-default-in-Genarray : goal.lower_operation-returns-in_ok-default-in-Genarray
lower_operation-returns-in_ok-default-in-Genarray t c =
    let a = c.args in
    let i = c.in-Genarray in
    let cx = a.cx.now in
    let l = look a.scope.now in
    let s = built a.out.now in
    genarray_arm (group_in cx) (base_of_in cx) (name_base_in cx) i.site (expr i.shape) (maybe i.default) a.base l s c.in_ok-shape-in-Genarray.ensures c.in_ok-default-in-Genarray.ensures
    ∙ sym (ap (λ op. make_operation_in cx op a.base l s) (ap operation i.is ∙ operation_genarray i.shape i.default i.site))

pub lower_statement-returns-in-Assign : goal.lower_statement-returns-in-Assign
lower_statement-returns-in-Assign t c =
    let a = c.args in
    let i = c.in-Assign in
    let cx = a.cx.now in
    let l = look a.scope.now in
    let s = built a.out.now in
    let whole = ap (λ targets. make_stmt_in cx (Tree.assign targets (expr i.value)) l s) c.deref.ensures.value
    ∙ sym (ap (λ st. make_stmt_in cx st l s) (ap stmt i.is ∙ stmt_assign i.targets i.value)) in
    subst (λ m. OnOk c.lower_assign.result (made_scope (built c.lower_assign.new.out) (look c.lower_assign.new.scope) ≡ m)) whole c.lower_assign.ensures

-- ---- expressions

pub lower-returns-in-Variable : goal.lower-returns-in-Variable
lower-returns-in-Variable t c =
    let a = c.args in
    let i = c.in-Variable in
    let view = ap (λ e. make_in a.cx.now e (look a.scope.now) (built a.out.now)) (sym (ap expr i.is ∙ expr_variable i.name i.site)) in
    subst (λ m. IfOk c.used.result (λ x. made (built c.used.new.out) x ≡ m)) view c.used.ensures

pub lower-returns-in_ok-parts-in-Literal : goal.lower-returns-in_ok-parts-in-Literal
lower-returns-in_ok-parts-in-Literal t c =
    let a = c.args in
    let i = c.in-Literal in
    let cx = a.cx.now in
    let l = look a.scope.now in
    let s = built a.out.now in
    let p = c.in_ok-parts-in-Literal.ensures ∙ ap (λ es. make_all_in cx (exprs es) l s) c.deref.ensures.value in
    let whole = (λ j. bound_at (p j).state i.site (Plain (PlainTerm.Literal (p j).results))) ∙ ap (λ e. make_in cx e l s) (sym (ap expr i.is ∙ expr_literal i.es i.site)) in
    subst (λ m. IfOk c.bind.result (λ x. made (built c.bind.new.self) x ≡ m)) whole c.bind.ensures

pub lower-returns-in_ok-x-in-Unary : goal.lower-returns-in_ok-x-in-Unary
lower-returns-in_ok-x-in-Unary t c =
    let a = c.args in
    let i = c.in-Unary in
    let cx = a.cx.now in
    let l = look a.scope.now in
    let s = built a.out.now in
    let p = c.in_ok-x-in-Unary.ensures ∙ ap (λ e. make_in cx (expr e) l s) c.deref-in-Unary.ensures in
    let whole = (λ j. bound_at (p j).state i.site (Plain (PlainTerm.Unary i.op (p j).result))) ∙ ap (λ e. make_in cx e l s) (sym (ap expr i.is ∙ expr_unary i.op i.e i.site)) in
    subst (λ m. IfOk c.bind-in-Unary.result (λ x. made (built c.bind-in-Unary.new.self) x ≡ m)) whole c.bind-in-Unary.ensures

pub lower-returns-in_ok-y-in-Binary : goal.lower-returns-in_ok-y-in-Binary
lower-returns-in_ok-y-in-Binary t c =
    let a = c.args in
    let i = c.in-Binary in
    let cx = a.cx.now in
    let l = look a.scope.now in
    let s = built a.out.now in
    let p = c.in_ok-x-in-Binary.ensures ∙ ap (λ e. make_in cx (expr e) l s) c.deref-in-Binary.ensures in
    let q = c.in_ok-y-in-Binary.ensures ∙ (λ j. make_in cx (expr (c.deref-in-Binary-2.ensures j)) l (p j).state) in
    let whole = (λ j. bound_at (q j).state i.site (Plain (PlainTerm.Binary i.op (p j).result (q j).result))) ∙ ap (λ e. make_in cx e l s) (sym (ap expr i.is ∙ expr_binary i.op i.left i.right i.site)) in
    subst (λ m. IfOk c.bind-in-Binary.result (λ x. made (built c.bind-in-Binary.new.self) x ≡ m)) whole c.bind-in-Binary.ensures

pub lower-returns-in_ok-no-in-Choice : goal.lower-returns-in_ok-no-in-Choice
lower-returns-in_ok-no-in-Choice t c =
    let a = c.args in
    let i = c.in-Choice in
    let cx = a.cx.now in
    let l = look a.scope.now in
    let s = built a.out.now in
    let p = c.in_ok-cond-in-Choice.ensures ∙ ap (λ e. make_in cx (expr e) l s) c.deref-in-Choice.ensures in
    let q = c.in_ok-yes-in-Choice.ensures ∙ (λ j. make_inside_in cx (expr (c.deref-in-Choice-2.ensures j)) l (p j).state) in
    let r = c.in_ok-no-in-Choice.ensures ∙ (λ j. make_inside_in cx (expr (c.deref-in-Choice-3.ensures j)) l (q j).state) in
    let whole = (λ j. bound_at (r j).state i.site (RightTerm.If (p j).result (q j).block (r j).block)) ∙ ap (λ e. make_in cx e l s) (sym (ap expr i.is ∙ expr_choice i.c i.left i.right i.site)) in
    subst (λ m. IfOk c.bind-in-Choice.result (λ x. made (built c.bind-in-Choice.new.self) x ≡ m)) whole c.bind-in-Choice.ensures

pub lower-returns-in_ok-y-in-Select : goal.lower-returns-in_ok-y-in-Select
lower-returns-in_ok-y-in-Select t c =
    let a = c.args in
    let i = c.in-Select in
    let cx = a.cx.now in
    let l = look a.scope.now in
    let s = built a.out.now in
    let p = c.in_ok-x-in-Select.ensures ∙ ap (λ e. make_in cx (expr e) l s) c.deref-in-Select.ensures in
    let q = c.in_ok-y-in-Select.ensures ∙ (λ j. make_in cx (expr (c.deref-in-Select-2.ensures j)) l (p j).state) in
    let whole = (λ j. bound_at (q j).state i.site (Plain (PlainTerm.Select (p j).result (q j).result))) ∙ ap (λ e. make_in cx e l s) (sym (ap expr i.is ∙ expr_select i.array i.index i.site)) in
    subst (λ m. IfOk c.bind-in-Select.result (λ x. made (built c.bind-in-Select.new.self) x ≡ m)) whole c.bind-in-Select.ensures

pub lower-returns-in_ok-group-in-Call : goal.lower-returns-in_ok-group-in-Call
lower-returns-in_ok-group-in-Call t c =
    let a = c.args in
    let i = c.in-Call in
    let cx = a.cx.now in
    let l = look a.scope.now in
    let s = built a.out.now in
    let p = c.in_ok-args-in-Call.ensures ∙ ap (λ es. make_all_in cx (exprs es) l s) c.deref-in-Call.ensures.value in
    let whole = (λ j. bound_at (p j).state i.site (RightTerm.Call (c.in_ok-group-in-Call.ensures j) (p j).results)) ∙ ap (λ e. make_in cx e l s) (sym (ap expr i.is ∙ expr_call i.name i.es i.site)) in
    subst (λ m. IfOk c.bind-in-Call.result (λ x. made (built c.bind-in-Call.new.self) x ≡ m)) whole c.bind-in-Call.ensures

pub lower-returns-in_ok-args-in-Builtin : goal.lower-returns-in_ok-args-in-Builtin
lower-returns-in_ok-args-in-Builtin t c =
    let a = c.args in
    let i = c.in-Builtin in
    let cx = a.cx.now in
    let l = look a.scope.now in
    let s = built a.out.now in
    let p = c.in_ok-args-in-Builtin.ensures ∙ ap (λ es. make_all_in cx (exprs es) l s) c.deref-in-Builtin.ensures.value in
    let right = c.built_in.ensures ∙ ap (λ vars. Plain (built_in i.builtin vars)) c.deref-in-Builtin-2.ensures.value in
    let whole = ap (bound_at (built c.lower_all-in-Builtin.new.out) i.site) right ∙ (λ j. bound_at (p j).state i.site (Plain (built_in i.builtin (p j).results))) ∙ ap (λ e. make_in cx e l s) (sym (ap expr i.is ∙ expr_builtin i.builtin i.es i.site)) in
    subst (λ m. IfOk c.bind-in-Builtin.result (λ x. made (built c.bind-in-Builtin.new.self) x ≡ m)) whole c.bind-in-Builtin.ensures

pub lower_all-loop-e-preserved : goal.lower_all-loop-e-preserved
lower_all-loop-e-preserved t c =
    let a = c.args in
    let es = a.es.now in
    let cx = a.cx.now in
    let l = look a.scope.now in
    let k = c.loop-e.e-index in
    let s = built c.loop-e.out in
    let done = c.loop-e.vars.items in
    let item = c.e-item.result in
    let below : k < length es = search rules in
    let one = c.in_ok-x.ensures ∙ ap (λ e. make_in cx (expr e) l s) c.e-item.is in
    let left = (λ i. after_list done (make_all_in cx (sym (exprs-drop es k item below) i) l s)) ∙ c.loop-e.invariant in
    (λ i. after_list (c.in_ok-push.ensures.items i) (make_all_in cx (exprs (drop (k + 1) es)) l (built c.lower.new.out)))
    ∙ all_step (group_in cx) (base_of_in cx) (name_base_in cx) done (expr (get_or es k item)) (exprs (drop (k + 1) es)) l s one left

pub lower_all-returns : goal.lower_all-returns
lower_all-returns t c =
    let a = c.args in
    let es = a.es.now in
    let cx = a.cx.now in
    let l = look a.scope.now in
    let k = c.loop-e.e-index in
    let s = built c.loop-e.out in
    let done = c.loop-e.vars.items in
    let past : length es ≤ k = search rules in
    list_end done s ((λ i. after_list done (make_all_in cx (exprs (sym (drop_all k es past) i)) l s)) ∙ c.loop-e.invariant)

pub lower_inside-returns : goal.lower_inside-returns
lower_inside-returns t c =
    let a = c.args in
    let cx = a.cx.now in
    let l = look a.scope.now in
    let s = built a.out.now in
    let x = c.in_ok-x.ensures ∙ ap (make_in cx (expr a.e.now) l) c.nested-inner.ensures in
    subst (λ m. IfOk c.close.result (λ b. made_block (built c.close.new.out) (block_term b) ≡ m)) (ap (block_of s) x) c.close.ensures

pub lower_maybe-returns-in-None : goal.lower_maybe-returns-in-None
lower_maybe-returns-in-None t c =
    let a = c.args in
    ap (λ e. make_maybe_in a.cx.now (maybe e) (look a.scope.now) (built a.out.now)) (sym c.in-None.is)

pub lower_maybe-returns-in_ok-x-in-Some : goal.lower_maybe-returns-in_ok-x-in-Some
lower_maybe-returns-in_ok-x-in-Some t c =
    let a = c.args in
    let p = c.in_ok-x-in-Some.ensures in
    (λ j. made_option (p j).state (Some (p j).result)) ∙ ap (λ e. make_maybe_in a.cx.now (maybe e) (look a.scope.now) (built a.out.now)) (sym c.in-Some.is)

pub lower_bound-returns-in-Dot : goal.lower_bound-returns-in-Dot
lower_bound-returns-in-Dot t c =
    let a = c.args in
    let i = c.in-Dot in
    ap (λ b. make_bound_in a.cx.now b (look a.scope.now) (built a.out.now)) (sym (ap bound i.is ∙ bound_dot i.field-0))

pub lower_bound-returns-in_ok-x-in-Given : goal.lower_bound-returns-in_ok-x-in-Given
lower_bound-returns-in_ok-x-in-Given t c =
    let a = c.args in
    let i = c.in-Given in
    let p = c.in_ok-x-in-Given.ensures in
    (λ j. made_option (p j).state (Some (p j).result)) ∙ ap (λ b. make_bound_in a.cx.now b (look a.scope.now) (built a.out.now)) (sym (ap bound i.is ∙ bound_given i.e))

-- ---- with-loops

pub lower_cell-returns : goal.lower_cell-returns
lower_cell-returns t c =
    let a = c.args in
    let cx = a.cx.now in
    let l = look a.scope.now in
    let s = built a.out.now in
    let b = c.in_ok-lower_block.ensures ∙ (λ j. make_block_in cx (block (c.deref.ensures.value j)) l (c.nested-inner.ensures j)) in
    let x = c.in_ok-x.ensures ∙ (λ j. make_in cx (expr a.g.now.cell) (b j).scope (b j).state) in
    subst (λ m. IfOk c.close.result (λ b. made_block (built c.close.new.out) (block_term b) ≡ m)) (ap (block_of s) x) c.close.ensures

pub lower_default-returns-in-None : goal.lower_default-returns-in-None
lower_default-returns-in-None t c =
    let a = c.args in
    let view = ap (λ e. make_default_in a.cx.now (maybe e) a.base a.site (look a.scope.now) (built a.out.now)) (sym c.in-None.is) in
    subst (λ m. IfOk c.constant.result (λ x. made (built c.constant.new.out) x ≡ m)) view c.constant.ensures

pub lower_default-returns-in-Some : goal.lower_default-returns-in-Some
lower_default-returns-in-Some t c =
    let a = c.args in
    let view = ap (λ e. make_default_in a.cx.now (maybe e) a.base a.site (look a.scope.now) (built a.out.now)) (sym c.in-Some.is) in
    subst (λ m. IfOk c.lower.result (λ x. made (built c.lower.new.out) x ≡ m)) view c.lower.ensures

pub lower_operation-returns-in_ok-array-in-Modarray : goal.lower_operation-returns-in_ok-array-in-Modarray
lower_operation-returns-in_ok-array-in-Modarray t c =
    let a = c.args in
    let i = c.in-Modarray in
    let p = c.in_ok-array-in-Modarray.ensures in
    (λ j. record { state = (p j).state; op = making.Modarray (p j).result; site = i.site })
    ∙ ap (λ op. make_operation_in a.cx.now op a.base (look a.scope.now) (built a.out.now)) (sym (ap operation i.is ∙ operation_modarray i.array i.site))

pub lower_operation-returns-in_ok-neutral-in-Fold : goal.lower_operation-returns-in_ok-neutral-in-Fold
lower_operation-returns-in_ok-neutral-in-Fold t c =
    let a = c.args in
    let i = c.in-Fold in
    let p = c.in_ok-neutral-in-Fold.ensures in
    (λ j. record { state = (p j).state; op = making.Fold i.op (p j).result; site = i.site })
    ∙ ap (λ op. make_operation_in a.cx.now op a.base (look a.scope.now) (built a.out.now)) (sym (ap operation i.is ∙ operation_fold i.op i.neutral i.site))

-- ---- statements

pub lower_statement-returns-in_ok-x-in-Replace : goal.lower_statement-returns-in_ok-x-in-Replace
lower_statement-returns-in_ok-x-in-Replace t c =
    let a = c.args in
    let i = c.in-Replace in
    let cx = a.cx.now in
    let l = look a.scope.now in
    let s = built a.out.now in
    let pi = c.in_ok-i-in-Replace.ensures in
    let pv = c.in_ok-v-in-Replace.ensures ∙ (λ j. make_in cx (expr i.value) l (pi j).state) in
    let pa = c.in_ok-a-in-Replace.ensures ∙ (λ j. use_at (pv j).state i.bracket (l i.target.name)) in
    let px = c.in_ok-x-in-Replace.ensures ∙ (λ j. bound_at (pa j).state i.bracket (Plain (PlainTerm.Replace (pa j).result (pi j).result (pv j).result))) in
    on_ok_then c.bind-in-Replace.result
    (λ k. (λ j. made_scope (built c.bind.new.self) (k j)) ∙ (λ j. made_scope (px j).state (with_var (c.as_str.ensures.bytes j) (px j).result l))
    ∙ ap (λ st. make_stmt_in cx st l s) (sym (ap stmt i.is ∙ stmt_replace i.target i.bracket i.index i.value)))
    c.bind-in-Replace.ensures

pub lower_statement-returns-in_ok-given-in-If : goal.lower_statement-returns-in_ok-given-in-If
lower_statement-returns-in_ok-given-in-If t c =
    let a = c.args in
    let i = c.in-If in
    let cx = a.cx.now in
    let l = look a.scope.now in
    let s = built a.out.now in
    let p = c.in_ok-given-in-If.ensures ∙ (λ j. make_if_in cx (expr i.cond) (block (c.deref-in-If.ensures.value j)) (block (c.deref-in-If-2.ensures.value j)) l s) in
    let whole = ap (given_bound i.site l) p ∙ ap (λ st. make_stmt_in cx st l s) (sym (ap stmt i.is ∙ stmt_if i.cond i.yes i.no i.site)) in
    subst (λ m. OnOk c.bind_given.result (made_scope (built c.bind_given.new.out) (look c.bind_given.new.scope) ≡ m)) whole c.bind_given.ensures

pub lower_statement-returns-in_ok-given-in-While : goal.lower_statement-returns-in_ok-given-in-While
lower_statement-returns-in_ok-given-in-While t c =
    let a = c.args in
    let i = c.in-While in
    let cx = a.cx.now in
    let l = look a.scope.now in
    let s = built a.out.now in
    let p = c.in_ok-given-in-While.ensures ∙ (λ j. make_while_in cx (expr i.cond) (block (c.deref-in-While.ensures.value j)) i.site l s) in
    let whole = ap (given_bound i.site l) p ∙ ap (λ st. make_stmt_in cx st l s) (sym (ap stmt i.is ∙ stmt_while i.cond i.body i.site)) in
    subst (λ m. OnOk c.bind_given-in-While.result (made_scope (built c.bind_given-in-While.new.out) (look c.bind_given-in-While.new.scope) ≡ m)) whole c.bind_given-in-While.ensures

pub lower_statement-returns-in_ok-given-in-Do : goal.lower_statement-returns-in_ok-given-in-Do
lower_statement-returns-in_ok-given-in-Do t c =
    let a = c.args in
    let i = c.in-Do in
    let cx = a.cx.now in
    let l = look a.scope.now in
    let s = built a.out.now in
    let p = c.in_ok-given-in-Do.ensures ∙ (λ j. make_do_in cx (block (c.deref-in-Do.ensures.value j)) (expr i.cond) i.site i.test l s) in
    let whole = ap (given_bound i.site l) p ∙ ap (λ st. make_stmt_in cx st l s) (sym (ap stmt i.is ∙ stmt_do i.body i.cond i.site i.test)) in
    subst (λ m. OnOk c.bind_given-in-Do.result (made_scope (built c.bind_given-in-Do.new.out) (look c.bind_given-in-Do.new.scope) ≡ m)) whole c.bind_given-in-Do.ensures

pub lower_if-returns : goal.lower_if-returns
lower_if-returns t c =
    let a = c.args in
    let cx = a.cx.now in
    let l = look a.scope.now in
    let yes = block a.yes.now in
    let no = block a.no.now in
    let p = c.in_ok-cond.ensures in
    let q = c.in_ok-first.ensures ∙ (λ j. make_block_in cx yes l (nested (p j).state)) in
    let r = c.in_ok-second.ensures ∙ (λ j. make_block_in cx no l (nested (built (c.deref.ensures j).bindings))) ∙ (λ j. make_block_in cx no l (nested (q j).state)) in
    subst (λ m. IfOk c.joined.result (λ g. made_given (built c.joined.new.out) g ≡ m)) (λ j. joined_from (p j).state (p j).result yes no (q j) (r j)) c.joined.ensures

pub lower_branch-returns : goal.lower_branch-returns
lower_branch-returns t c =
    let a = c.args in
    ap made_branch c.in_ok-new.ensures.ok ∙ c.in_ok-lower_block.ensures ∙ (λ j. make_block_in a.cx.now (block a.ss.now) (c.inside-inside.ensures j) (c.nested-inner.ensures j))

pub lower_turn-returns : goal.lower_turn-returns
lower_turn-returns t c =
    let a = c.args in
    subst (λ m. IfOk c.close_branch.result (λ b. made_block (built c.close_branch.new.out) (block_term b) ≡ m)) (ap (block_giving (texts a.names.now) (built a.out.now)) c.in_ok-turn.ensures) c.close_branch.ensures

pub lower_while-returns : goal.lower_while-returns
lower_while-returns t c =
    let a = c.args in
    subst (λ m. IfOk c.lower_while_in.result (λ g. made_given (built c.lower_while_in.new.out) g ≡ m))
    (ap (λ l. make_while_in a.cx.now (expr a.cond.now) (block a.body.now) a.test_site l (built a.out.now)) c.inside-inside.ensures) c.lower_while_in.ensures

pub lower_while_in-returns : goal.lower_while_in-returns
lower_while_in-returns t c =
    let a = c.args in
    let cx = a.cx.now in
    let body = block a.body.now in
    let k = c.in_ok-names.ensures in
    let test = c.in_ok-test.ensures ∙ (λ j. make_inside_in cx (expr a.cond.now) (k j).scope (k j).state) in
    let turn = c.in_ok-body.ensures ∙ (λ j. make_turn_in cx (texts (c.deref.ensures.value j)) body (look c.carried_by_while.new.scope) (built c.lower_inside.new.out))
    ∙ (λ j. make_turn_in cx (k j).names body (k j).scope (test j).state) in
    λ j. record { state = (turn j).state; names = (k j).names; right = RightTerm.Loop false (k j).start (k j).params (test j).block (turn j).block a.test_site }

pub lower_do-returns : goal.lower_do-returns
lower_do-returns t c =
    let a = c.args in
    subst (λ m. IfOk c.lower_do_in.result (λ g. made_given (built c.lower_do_in.new.out) g ≡ m))
    (ap (λ l. make_do_in a.cx.now (block a.body.now) (expr a.cond.now) a.site a.test_site l (built a.out.now)) c.inside-inside.ensures) c.lower_do_in.ensures

pub lower_do_in-returns : goal.lower_do_in-returns
lower_do_in-returns t c =
    let a = c.args in
    let cx = a.cx.now in
    let body = block a.body.now in
    let k = c.in_ok-names.ensures in
    let turn = c.in_ok-body.ensures ∙ (λ j. make_turn_in cx (texts (c.deref.ensures.value j)) body (look c.carried_by_do.new.scope) (built c.carried_by_do.new.out))
    ∙ (λ j. make_turn_in cx (k j).names body (k j).scope (k j).state) in
    let test = c.in_ok-test.ensures ∙ (λ j. make_inside_in cx (expr a.cond.now) (k j).scope (turn j).state) in
    λ j. record { state = (test j).state; names = (k j).names; right = RightTerm.Loop true (k j).start (k j).params (test j).block (turn j).block a.test_site }

pub lower_block-loop-s-preserved : goal.lower_block-loop-s-preserved
lower_block-loop-s-preserved t c =
    let a = c.args in
    let ss = a.ss.now in
    let cx = a.cx.now in
    let k = c.loop-s.s-index in
    let l = look c.loop-s.scope in
    let s = built c.loop-s.out in
    let below : k < length ss = search rules in
    let next = ap block (drop_more ss k c.s-item.result below) ∙ ap (λ x. Tree.stmt_and (stmt x) (block (drop (k + 1) ss))) (sym c.s-item.is) in
    (λ j. make_block_in cx (block (drop (k + 1) ss)) (c.in_ok-lower_statement.ensures j).scope (c.in_ok-lower_statement.ensures j).state)
    ∙ ap (λ b. make_block_in cx b l s) (sym next) ∙ c.loop-s.invariant

pub lower_block-returns : goal.lower_block-returns
lower_block-returns t c =
    let a = c.args in
    let ss = a.ss.now in
    let past : length ss ≤ c.loop-s.s-index = search rules in
    ap (λ rest. make_block_in a.cx.now (block rest) (look c.loop-s.scope) (built c.loop-s.out)) (sym (drop_all c.loop-s.s-index ss past)) ∙ c.loop-s.invariant

-- Answers for expressions and their operands.
use Rattle.std.proofs.Common.{rules, ◌≡◌, ℕ, ◌-◌, ◌<◌, ◌≤◌, length, true, false, [], ◌∷◌, Ok, Err, Some, None, get_or, drop, refl, ap, sym, ◌∙◌, subst, arith, map, ◌++◌, List, append_assoc, ◌+◌, ℤ}
use Rattle.std.proofs.lemmas.List.{append-nil, drop_all, drop_more, length-append}
use Rattle.std.proofs.Math.Nat.{add-mul}
use Rattle.std.specs.Prelude.{ℤ}
use Rattle.sac_ast.specs.View.{expr, exprs, stmt, block}
use Rattle.sac_ast.specs.Tree
use Rattle.sac_ast.proofs.Views.{stmt_assign, stmt_while, stmt_do, stmt_if, stmt_replace, expr_variable, expr_literal, expr_unary, expr_builtin, expr_call, expr_binary, expr_select, expr_choice, expr_with, operation_genarray, operation_modarray, operation_fold, bound_dot, bound_given}
use Rattle.sac_ast.proofs.Lists.{exprs-drop}
use Rattle.value_meaning.proofs.TestSteps.{turn_test_fault, turn_ends, turn_over, turn_goes}
use Rattle.array_ops.proofs.Steps.{said, test_fault, test_true, test_false}
use Rattle.source_meaning.specs.Environments.{env_of}
use Rattle.source_meaning.specs.Parameters.{names_of_params}
use Rattle.value_meaning.specs.Evaluation.{bases_in, meaning_in, meanings_in, statement_in, block_in, repeat_in, calls_in, cell_in, function_in}
use Rattle.array_ops.specs.Tells.{Tells, TellsItems, TellsEnv}
use Rattle.sac_base.specs.Outcomes.{Env, at_site, choose, first_result, or_zero, with_variable, with_variables}
use Rattle.sac_base.specs.Operators.{unary, binary}
use Rattle.source_meaning.specs.Meaning.{built_in, call_with, default_base, default_or, names, with_index}
use Rattle.source_meaning.specs.Calls.{run_deeper, run_inline, results_in}
use Rattle.sac_ast.specs.Bases.{base_in}
use Rattle.sac_ast.specs.View.{functions, function, index_view}
use Rattle.value_meaning.proofs.CallSteps.{function_at, length-functions, runs_inline, runs_deeper, too_deep, no_bindings, no_inner_bindings, cell_steps, same_value, function_steps}
use Rattle.source_meaning.specs.declared.environment.Environment.{roll-Environment}
use Rattle.value_meaning.proofs.Measures.{rank_falls, rank_falls_inline, body_below}
use Rattle.value_meaning.proofs.Steps.{values_step, assign_plain, not_call, stopped, stopped_items, stopped_env, stopped_as, as_bounds, from_step, from_upper, from_lower}
use Rattle.array_ops.proofs.Steps.{same_stop, fault_then, value_then, then_same}
use Rattle.sac_base.specs.WithLoops.{holds}
use Rattle.array_with_loops.proofs.Holders.{holder_goes_on, holder_ends}
use Rattle.sac_ast.specs.View
use Rattle.value_meaning.specs.WithSource.{generator_of, bounds_in, bound_in, maybe_in, held_in, cells_in, operation_in}
use Rattle.array_with_loops.specs.Plans.{plan_of, operation_of}
use Rattle.array_with_loops.specs.Cells.{array_from, cells_from, cell_from}
use Rattle.array_with_loops.proofs.CellSteps.{genarray_finish, modarray_finish, cell_below, cell_within, cell_length}
use Rattle.array_with_loops.proofs.EachSteps.{each_length, each_step, each_fault, each_end}
use Rattle.value_meaning.proofs.WithValue.{whole, whole_fault, bounds_fault, operation_fault}
use Rattle.sac_base.specs.Arrays.{ArrayValue, size}
use Rattle.sac_base.specs.Parts.{condition, replace, select, shape_of_numbers, vector_of}
use Rattle.sac_base.specs.Parts
use Rattle.sac_base.specs.WithLoops.{genarray, modarray, fold_by, genarray_plan, modarray_plan, fold_plan, index_length, finish, combined, each, holder}
use Rattle.sac_base.specs.WithLoops
use Rattle.sac_base.specs.Outcomes.{and_then}
use Rattle.std.specs.Prelude.{fold}
use Rattle.value_meaning.proofs.evaluate.+evaluate.Goals as goal

-- ---- expressions

pub evaluate-returns-in-Binary : goal.evaluate-returns-in-Binary
evaluate-returns-in-Binary t c =
    let i = c.in-Binary in
    let same = ap (λ e. Tree.binary i.op (expr e) (expr c.deref-in-Binary-2.result.now) i.site) c.deref-in-Binary.ensures
    ∙ ap (λ e. Tree.binary i.op (expr i.left.value) (expr e) i.site) c.deref-in-Binary-2.ensures
    ∙ sym (expr_binary i.op i.left i.right i.site) ∙ ap expr (sym i.is) in
    subst (λ tree. Tells c.evaluate_binary.result (meaning_in c.args.context.now tree (env_of c.args.env.now))) same c.evaluate_binary.ensures

pub evaluate-returns-in-Select : goal.evaluate-returns-in-Select
evaluate-returns-in-Select t c =
    let i = c.in-Select in
    let same = ap (λ e. Tree.select (expr e) (expr c.deref-in-Select-2.result.now) i.site) c.deref-in-Select.ensures
    ∙ ap (λ e. Tree.select (expr i.array.value) (expr e) i.site) c.deref-in-Select-2.ensures
    ∙ sym (expr_select i.array i.index i.site) ∙ ap expr (sym i.is) in
    subst (λ tree. Tells c.evaluate_select.result (meaning_in c.args.context.now tree (env_of c.args.env.now))) same c.evaluate_select.ensures

pub evaluate-returns-in_err-evaluate_test-in-Choice : goal.evaluate-returns-in_err-evaluate_test-in-Choice
evaluate-returns-in_err-evaluate_test-in-Choice t c =
    let i = c.in-Choice in
    let M = λ (e : Tree.Expr). meaning_in c.args.context.now e (env_of c.args.env.now) in
    let stop = c.in_err-evaluate_test-in-Choice.field-0.0 in
    let is : c.from_residual-in_err-evaluate_test-in-Choice.result ≡ Err stop = search rules in
    let whole = ap M (ap expr i.is ∙ expr_choice i.test i.first i.second i.site) in
    let tested = ap (λ e. said i.site (M (expr e))) c.deref-in-Choice.ensures in
    subst (λ r. Tells r (M (expr c.args.e.now))) (sym is)
    (same_stop stop (said i.site (M (expr c.deref-in-Choice.result.now))) (M (expr c.args.e.now))
    (λ f e. whole ∙ test_fault i.site (M (expr i.first.value)) (M (expr i.second.value)) (M (expr i.test.value)) f (sym tested ∙ e))
    c.in_err-evaluate_test-in-Choice.ensures)

pub evaluate-returns-then-branch : goal.evaluate-returns-then-branch
evaluate-returns-then-branch t c =
    let i = c.in-Choice in
    let M = λ (e : Tree.Expr). meaning_in c.args.context.now e (env_of c.args.env.now) in
    let whole = ap M (ap expr i.is ∙ expr_choice i.test i.first i.second i.site) in
    let tested = ap (λ e. said i.site (M (expr e))) c.deref-in-Choice.ensures in
    let chosen = test_true i.site (M (expr i.first.value)) (M (expr i.second.value)) (M (expr i.test.value)) (sym tested ∙ c.in_ok-evaluate_test-in-Choice.ensures ∙ ap Ok c.if-branch.true) in
    subst (λ m. Tells c.evaluate-then-branch.result m) (sym (whole ∙ chosen ∙ ap (λ e. M (expr e)) (sym c.deref-then-branch.ensures))) c.evaluate-then-branch.ensures

pub evaluate-returns-else-branch : goal.evaluate-returns-else-branch
evaluate-returns-else-branch t c =
    let i = c.in-Choice in
    let M = λ (e : Tree.Expr). meaning_in c.args.context.now e (env_of c.args.env.now) in
    let whole = ap M (ap expr i.is ∙ expr_choice i.test i.first i.second i.site) in
    let tested = ap (λ e. said i.site (M (expr e))) c.deref-in-Choice.ensures in
    let chosen = test_false i.site (M (expr i.first.value)) (M (expr i.second.value)) (M (expr i.test.value)) (sym tested ∙ c.in_ok-evaluate_test-in-Choice.ensures ∙ ap Ok c.if-branch.false) in
    subst (λ m. Tells c.evaluate-else-branch.result m) (sym (whole ∙ chosen ∙ ap (λ e. M (expr e)) (sym c.deref-else-branch.ensures))) c.evaluate-else-branch.ensures

-- ---- expressions: operands

pub evaluate-returns-in-Variable : goal.evaluate-returns-in-Variable
evaluate-returns-in-Variable t c =
    let i = c.in-Variable in
    let whole = ap (λ e. meaning_in c.args.context.now e (env_of c.args.env.now)) (ap expr i.is ∙ expr_variable i.name i.field-1) in
    subst (λ m. Tells c.value_of.result m) (sym whole) c.value_of.ensures

pub evaluate-returns-in_err-values-in-Literal : goal.evaluate-returns-in_err-values-in-Literal
evaluate-returns-in_err-values-in-Literal t c =
    let i = c.in-Literal in
    let ctx = c.args.context.now in
    let env = env_of c.args.env.now in
    let stop = c.in_err-values-in-Literal.field-0.0 in
    let is : c.from_residual-in_err-values-in-Literal.result ≡ Err stop = search rules in
    let whole = ap (λ e. meaning_in ctx e env) (ap expr i.is ∙ expr_literal i.es i.site ∙ ap (λ es. Tree.literal (exprs es) i.site) (sym c.deref.ensures.value)) in
    stopped c.from_residual-in_err-values-in-Literal.result stop (meanings_in ctx (exprs c.deref.result.now) env) (λ values. at_site i.site (Parts.literal values))
    (meaning_in ctx (expr c.args.e.now) env) is whole c.in_err-values-in-Literal.ensures

pub evaluate-returns-in_ok-values-in-Literal : goal.evaluate-returns-in_ok-values-in-Literal
evaluate-returns-in_ok-values-in-Literal t c =
    let i = c.in-Literal in
    let ctx = c.args.context.now in
    let env = env_of c.args.env.now in
    let values = c.in_ok-values-in-Literal.values.items in
    let whole = ap (λ e. meaning_in ctx e env) (ap expr i.is ∙ expr_literal i.es i.site ∙ ap (λ es. Tree.literal (exprs es) i.site) (sym c.deref.ensures.value))
    ∙ value_then (meanings_in ctx (exprs c.deref.result.now) env) (λ values. at_site i.site (Parts.literal values)) values c.in_ok-values-in-Literal.ensures
    ∙ ap (λ values. at_site i.site (Parts.literal values)) (sym c.deref-in-Literal.ensures.value) in
    subst (λ m. Tells c.literal_at.result m) (sym whole) c.literal_at.ensures

pub evaluate-returns-in_err-a-in-Unary : goal.evaluate-returns-in_err-a-in-Unary
evaluate-returns-in_err-a-in-Unary t c =
    let i = c.in-Unary in
    let ctx = c.args.context.now in
    let env = env_of c.args.env.now in
    let stop = c.in_err-a-in-Unary.field-0.0 in
    let is : c.from_residual-in_err-a-in-Unary.result ≡ Err stop = search rules in
    let whole = ap (λ e. meaning_in ctx e env) (ap expr i.is ∙ expr_unary i.op i.e i.field-2 ∙ ap (λ e. Tree.unary i.op (expr e) i.field-2) (sym c.deref-in-Unary.ensures)) in
    stopped c.from_residual-in_err-a-in-Unary.result stop (meaning_in ctx (expr c.deref-in-Unary.result.now) env) (λ a. Ok (unary i.op a))
    (meaning_in ctx (expr c.args.e.now) env) is whole c.in_err-a-in-Unary.ensures

pub evaluate-returns-in_ok-a-in-Unary : goal.evaluate-returns-in_ok-a-in-Unary
evaluate-returns-in_ok-a-in-Unary t c =
    let i = c.in-Unary in
    let ctx = c.args.context.now in
    let env = env_of c.args.env.now in
    let whole = ap (λ e. meaning_in ctx e env) (ap expr i.is ∙ expr_unary i.op i.e i.field-2 ∙ ap (λ e. Tree.unary i.op (expr e) i.field-2) (sym c.deref-in-Unary.ensures))
    ∙ value_then (meaning_in ctx (expr c.deref-in-Unary.result.now) env) (λ a. Ok (unary i.op a)) c.in_ok-a-in-Unary.a c.in_ok-a-in-Unary.ensures in
    subst (λ m. Tells c.unary_of.result m) (sym whole) c.unary_of.ensures

pub evaluate-returns-in_err-values-in-Builtin : goal.evaluate-returns-in_err-values-in-Builtin
evaluate-returns-in_err-values-in-Builtin t c =
    let i = c.in-Builtin in
    let ctx = c.args.context.now in
    let env = env_of c.args.env.now in
    let stop = c.in_err-values-in-Builtin.field-0.0 in
    let is : c.from_residual-in_err-values-in-Builtin.result ≡ Err stop = search rules in
    let whole = ap (λ e. meaning_in ctx e env) (ap expr i.is ∙ expr_builtin i.b i.es i.site ∙ ap (λ es. Tree.builtin i.b (exprs es) i.site) (sym c.deref-in-Builtin.ensures.value)) in
    stopped c.from_residual-in_err-values-in-Builtin.result stop (meanings_in ctx (exprs c.deref-in-Builtin.result.now) env) (λ values. at_site i.site (built_in i.b values))
    (meaning_in ctx (expr c.args.e.now) env) is whole c.in_err-values-in-Builtin.ensures

pub evaluate-returns-in_ok-values-in-Builtin : goal.evaluate-returns-in_ok-values-in-Builtin
evaluate-returns-in_ok-values-in-Builtin t c =
    let i = c.in-Builtin in
    let ctx = c.args.context.now in
    let env = env_of c.args.env.now in
    let values = c.in_ok-values-in-Builtin.values.items in
    let whole = ap (λ e. meaning_in ctx e env) (ap expr i.is ∙ expr_builtin i.b i.es i.site ∙ ap (λ es. Tree.builtin i.b (exprs es) i.site) (sym c.deref-in-Builtin.ensures.value))
    ∙ value_then (meanings_in ctx (exprs c.deref-in-Builtin.result.now) env) (λ values. at_site i.site (built_in i.b values)) values c.in_ok-values-in-Builtin.ensures
    ∙ ap (λ values. at_site i.site (built_in i.b values)) (sym c.deref-in-Builtin-2.ensures.value) in
    subst (λ m. Tells c.built_in_at.result m) (sym whole) c.built_in_at.ensures

pub evaluate-returns-in_ok-results-in-Call : goal.evaluate-returns-in_ok-results-in-Call
evaluate-returns-in_ok-results-in-Call t c =
    let i = c.in-Call in
    let ctx = c.args.context.now in
    let env = env_of c.args.env.now in
    let results = c.in_ok-results-in-Call.results.items in
    let called = call_with (calls_in ctx) i.name i.site (meanings_in ctx (exprs c.deref-in-Call.result.now) env) in
    let whole = ap (λ e. meaning_in ctx e env) (ap expr i.is ∙ expr_call i.name i.es i.site ∙ ap (λ es. Tree.call i.name (exprs es) i.site) (sym c.deref-in-Call.ensures.value))
    ∙ value_then called (λ results. Ok (first_result results)) results c.in_ok-results-in-Call.ensures
    ∙ ap (λ results. Ok (first_result results)) (sym c.deref-in-Call-2.ensures.value) in
    subst (λ m. Tells c.first_result_of.result m) (sym whole) c.first_result_of.ensures

pub evaluate-returns-in-With : goal.evaluate-returns-in-With
evaluate-returns-in-With t c =
    let i = c.in-With in
    let same = (λ j. Tree.with_loop (View.generators (c.deref-in-With.ensures.value j)) (View.operation (c.deref-in-With-2.ensures j)) i.site) ∙ sym (ap expr i.is ∙ expr_with i.gs i.op i.site) in
    subst (λ tree. Tells c.evaluate_with.result (meaning_in c.args.context.now tree (env_of c.args.env.now))) same c.evaluate_with.ensures

pub evaluate_binary-returns-in_err-a : goal.evaluate_binary-returns-in_err-a
evaluate_binary-returns-in_err-a t c =
    let a = c.args in
    let M = λ (e : Tree.Expr). meaning_in a.context.now e (env_of a.env.now) in
    let stop = c.in_err-a.field-0.0 in
    let is : c.from_residual.result ≡ Err stop = search rules in
    stopped c.from_residual.result stop (M (expr a.left.now)) (λ x. and_then (M (expr a.right.now)) (λ y. at_site a.site (binary a.op x y)))
    (M (Tree.binary a.op (expr a.left.now) (expr a.right.now) a.site)) is refl c.in_err-a.ensures

pub evaluate_binary-returns-in_err-b : goal.evaluate_binary-returns-in_err-b
evaluate_binary-returns-in_err-b t c =
    let a = c.args in
    let M = λ (e : Tree.Expr). meaning_in a.context.now e (env_of a.env.now) in
    let x = c.in_ok-a.a in
    let stop = c.in_err-b.field-0.0 in
    let is : c.from_residual-in_err-b.result ≡ Err stop = search rules in
    stopped c.from_residual-in_err-b.result stop (M (expr a.right.now)) (λ y. at_site a.site (binary a.op x y))
    (M (Tree.binary a.op (expr a.left.now) (expr a.right.now) a.site)) is
    (value_then (M (expr a.left.now)) (λ x. and_then (M (expr a.right.now)) (λ y. at_site a.site (binary a.op x y))) x c.in_ok-a.ensures) c.in_err-b.ensures

pub evaluate_binary-returns : goal.evaluate_binary-returns
evaluate_binary-returns t c =
    let a = c.args in
    let M = λ (e : Tree.Expr). meaning_in a.context.now e (env_of a.env.now) in
    let x = c.in_ok-a.a in
    let whole = value_then (M (expr a.left.now)) (λ x. and_then (M (expr a.right.now)) (λ y. at_site a.site (binary a.op x y))) x c.in_ok-a.ensures
    ∙ value_then (M (expr a.right.now)) (λ y. at_site a.site (binary a.op x y)) c.in_ok-b.b c.in_ok-b.ensures in
    subst (λ m. Tells c.binary_at.result m) (sym whole) c.binary_at.ensures

pub evaluate_test-returns-in_err-c : goal.evaluate_test-returns-in_err-c
evaluate_test-returns-in_err-c t c =
    let a = c.args in
    let M = meaning_in a.context.now (expr a.test.now) (env_of a.env.now) in
    let stop = c.in_err-c.field-0.0 in
    let is : c.from_residual.result ≡ Err stop = search rules in
    stopped c.from_residual.result stop M (λ v. choose a.site (condition v) (Ok true) (Ok false)) (said a.site M) is refl c.in_err-c.ensures

pub evaluate_select-returns-in_err-a : goal.evaluate_select-returns-in_err-a
evaluate_select-returns-in_err-a t c =
    let a = c.args in
    let M = λ (e : Tree.Expr). meaning_in a.context.now e (env_of a.env.now) in
    let stop = c.in_err-a.field-0.0 in
    let is : c.from_residual-in_err-a.result ≡ Err stop = search rules in
    stopped c.from_residual-in_err-a.result stop (M (expr a.array.now)) (λ x. and_then (M (expr a.index.now)) (λ y. at_site a.site (select x y)))
    (M (Tree.select (expr a.array.now) (expr a.index.now) a.site)) is refl c.in_err-a.ensures

pub evaluate_select-returns-in_err-i-2 : goal.evaluate_select-returns-in_err-i-2
evaluate_select-returns-in_err-i-2 t c =
    let a = c.args in
    let M = λ (e : Tree.Expr). meaning_in a.context.now e (env_of a.env.now) in
    let x = c.in_ok-a.a in
    let stop = c.in_err-i-2.field-0.0 in
    let is : c.from_residual-in_err-i-2.result ≡ Err stop = search rules in
    stopped c.from_residual-in_err-i-2.result stop (M (expr a.index.now)) (λ y. at_site a.site (select x y))
    (M (Tree.select (expr a.array.now) (expr a.index.now) a.site)) is
    (value_then (M (expr a.array.now)) (λ x. and_then (M (expr a.index.now)) (λ y. at_site a.site (select x y))) x c.in_ok-a.ensures) c.in_err-i-2.ensures

pub evaluate_select-returns : goal.evaluate_select-returns
evaluate_select-returns t c =
    let a = c.args in
    let M = λ (e : Tree.Expr). meaning_in a.context.now e (env_of a.env.now) in
    let x = c.in_ok-a.a in
    let whole = value_then (M (expr a.array.now)) (λ x. and_then (M (expr a.index.now)) (λ y. at_site a.site (select x y))) x c.in_ok-a.ensures
    ∙ value_then (M (expr a.index.now)) (λ y. at_site a.site (select x y)) c.in_ok-i-2.i c.in_ok-i-2.ensures in
    subst (λ m. Tells c.select_at-2.result m) (sym whole) c.select_at-2.ensures

pub evaluate_all-returns-in_err-value : goal.evaluate_all-returns-in_err-value
evaluate_all-returns-in_err-value t c =
    let a = c.args in
    let ctx = a.context.now in
    let env = env_of a.env.now in
    let es = a.es.now in
    let k = c.loop-e.e-index in
    let vs = c.loop-e.values.items in
    let item = c.e-item.result in
    let rest = exprs (drop (k + 1) es) in
    let stop = c.in_err-value.field-0.0 in
    let is : c.from_residual.result ≡ Err stop = search rules in
    let meant = meanings_in ctx (exprs es) env in
    subst (λ r. TellsItems r meant) (sym is)
    (same_stop stop (meaning_in ctx (expr item) env) meant
    (λ f e. sym c.loop-e.invariant ∙ ap (λ t. and_then (meanings_in ctx t env) (λ rest. Ok (vs ++ rest))) (exprs-drop es k item c.loop-e-test.true)
    ∙ ap (λ m. and_then (and_then m (λ v. and_then (meanings_in ctx rest env) (λ values. Ok (v ∷ values)))) (λ rest. Ok (vs ++ rest))) (ap (λ x. meaning_in ctx (expr x) env) (sym c.e-item.is) ∙ e))
    c.in_err-value.ensures)

pub evaluate_all-returns : goal.evaluate_all-returns
evaluate_all-returns t c =
    let a = c.args in
    let es = a.es.now in
    let k = c.loop-e.e-index in
    let vs = c.loop-e.values.items in
    let past : length es ≤ k = search rules in
    sym c.loop-e.invariant
    ∙ ap (λ xs. and_then (meanings_in a.context.now (exprs xs) (env_of a.env.now)) (λ rest. Ok (vs ++ rest))) (drop_all k es past)
    ∙ ap Ok (append-nil vs)

pub evaluate_call-returns-in_err-args : goal.evaluate_call-returns-in_err-args
evaluate_call-returns-in_err-args t c =
    let a = c.args in
    let ctx = a.context.now in
    let args = meanings_in ctx (exprs a.es.now) (env_of a.env.now) in
    let stop = c.in_err-args.field-0.0 in
    let is : c.from_residual.result ≡ Err stop = search rules in
    stopped_items c.from_residual.result stop args (λ values. calls_in ctx a.name.now values a.site) (call_with (calls_in ctx) a.name.now a.site args) is refl c.in_err-args.ensures

pub evaluate_call-returns : goal.evaluate_call-returns
evaluate_call-returns t c =
    let a = c.args in
    let ctx = a.context.now in
    let args = meanings_in ctx (exprs a.es.now) (env_of a.env.now) in
    let whole = value_then args (λ values. calls_in ctx a.name.now values a.site) c.in_ok-args.args.items c.in_ok-args.ensures in
    subst (λ m. TellsItems c.call.result m) (sym whole) c.call.ensures

-- The answers of the cycle: those of expressions and of with-loops stand in the folder of this file's name.
mod ExpressionAnswers
mod WithAnswers
use Rattle.std.proofs.Common.{rules, ◌≡◌, ℕ, ◌-◌, ◌<◌, ◌≤◌, length, true, false, [], ◌∷◌, Ok, Err, Some, None, get_or, drop, refl, ap, sym, ◌∙◌, subst, arith, map, ◌++◌, List, append_assoc, ◌+◌, ℤ}
use Rattle.std.proofs.lemmas.List.{append-nil, drop_all, drop_more, length-append}
use Rattle.std.proofs.Math.Nat.{add-mul}
use Rattle.std.specs.Prelude.{ℤ}
use Rattle.sac_ast.specs.View.{expr, exprs, stmt, block}
use Rattle.sac_ast.specs.Tree
use Rattle.sac_ast.proofs.Views.{stmt_assign, stmt_while, stmt_do, stmt_if, stmt_replace, expr_variable, expr_literal, expr_unary, expr_builtin, expr_call, expr_binary, expr_select, expr_choice, expr_with, operation_genarray, operation_modarray, operation_fold, bound_dot, bound_given}
use Rattle.sac_ast.proofs.Lists.{exprs-drop}
use Rattle.value_meaning.proofs.TestSteps.{turn_test_fault, turn_ends, turn_over, turn_goes}
use Rattle.array_ops.proofs.Steps.{said, test_fault, test_true, test_false}
use Rattle.source_meaning.specs.Environments.{env_of}
use Rattle.source_meaning.specs.Parameters.{names_of_params}
use Rattle.value_meaning.specs.Evaluation.{bases_in, meaning_in, meanings_in, statement_in, block_in, repeat_in, calls_in, cell_in, function_in}
use Rattle.array_ops.specs.Tells.{Tells, TellsItems, TellsEnv}
use Rattle.sac_base.specs.Outcomes.{Env, at_site, choose, first_result, or_zero, with_variable, with_variables}
use Rattle.sac_base.specs.Operators.{unary, binary}
use Rattle.source_meaning.specs.Meaning.{built_in, call_with, default_base, default_or, names, with_index}
use Rattle.source_meaning.specs.Calls.{run_deeper, run_inline, results_in}
use Rattle.sac_ast.specs.Bases.{base_in}
use Rattle.sac_ast.specs.View.{functions, function, index_view}
use Rattle.value_meaning.proofs.CallSteps.{function_at, length-functions, runs_inline, runs_deeper, too_deep, no_bindings, no_inner_bindings, cell_steps, same_value, function_steps}
use Rattle.source_meaning.specs.declared.environment.Environment.{roll-Environment}
use Rattle.value_meaning.proofs.Measures.{rank_falls, rank_falls_inline, body_below}
use Rattle.value_meaning.proofs.Steps.{values_step, assign_plain, not_call, stopped, stopped_items, stopped_env, stopped_as, as_bounds, from_step, from_upper, from_lower}
use Rattle.array_ops.proofs.Steps.{same_stop, fault_then, value_then, then_same}
use Rattle.sac_base.specs.WithLoops.{holds}
use Rattle.array_with_loops.proofs.Holders.{holder_goes_on, holder_ends}
use Rattle.sac_ast.specs.View
use Rattle.value_meaning.specs.WithSource.{generator_of, bounds_in, bound_in, maybe_in, held_in, cells_in, operation_in}
use Rattle.array_with_loops.specs.Plans.{plan_of, operation_of}
use Rattle.array_with_loops.specs.Cells.{array_from, cells_from, cell_from}
use Rattle.array_with_loops.proofs.CellSteps.{genarray_finish, modarray_finish, cell_below, cell_within, cell_length}
use Rattle.array_with_loops.proofs.EachSteps.{each_length, each_step, each_fault, each_end}
use Rattle.value_meaning.proofs.WithValue.{whole, whole_fault, bounds_fault, operation_fault}
use Rattle.sac_base.specs.Arrays.{ArrayValue, size}
use Rattle.sac_base.specs.Parts.{condition, replace, select, shape_of_numbers, vector_of}
use Rattle.sac_base.specs.Parts
use Rattle.sac_base.specs.WithLoops.{genarray, modarray, fold_by, genarray_plan, modarray_plan, fold_plan, index_length, finish, combined, each, holder}
use Rattle.sac_base.specs.WithLoops
use Rattle.sac_base.specs.Outcomes.{and_then}
use Rattle.std.specs.Prelude.{fold}
use Rattle.value_meaning.proofs.evaluate.+evaluate.Goals as goal
use Rattle.value_meaning.proofs.evaluate.+evaluate.Answers.ExpressionAnswers as expression_answers
use Rattle.value_meaning.proofs.evaluate.+evaluate.Answers.WithAnswers as with_answers

pub evaluate_all-loop-e-preserved : goal.evaluate_all-loop-e-preserved
evaluate_all-loop-e-preserved t c =
    let at = subst (λ e. meaning_in c.args.context.now (expr e) (env_of c.args.env.now) ≡ Ok c.in_ok-value.value) c.e-item.is c.in_ok-value.ensures in
    let step = values_step c.args.context.now (env_of c.args.env.now) c.args.es.now c.loop-e.e-index c.e-item.result c.loop-e.values.items c.in_ok-value.value _ c.loop-e-test.true at c.loop-e.invariant in
    rw c.in_ok-push.ensures step

pub run-returns-in-Assign : goal.run-returns-in-Assign
run-returns-in-Assign t c =
    let same = ap (λ ts. Tree.assign ts (expr c.in-Assign.value)) c.deref.ensures.value ∙ sym (stmt_assign c.in-Assign.targets c.in-Assign.value) ∙ ap stmt (sym c.in-Assign.is) in
    subst (λ s. TellsEnv c.run_assign.result (env_of c.run_assign.new.env) (statement_in c.args.context.now s (env_of c.args.env.now))) same c.run_assign.ensures

pub run-returns-in-While : goal.run-returns-in-While
run-returns-in-While t c =
    let body = ap block c.deref-in-While.ensures.value in
    let whole = stmt_while c.in-While.cond c.in-While.body c.in-While.site in
    let same = ap (λ b. Tree.while_do (expr c.in-While.cond) b c.in-While.site) body ∙ sym whole ∙ ap stmt (sym c.in-While.is) in
    subst (λ s. TellsEnv c.repeat_while.result (env_of c.repeat_while.new.env) (statement_in c.args.context.now s (env_of c.args.env.now))) same c.repeat_while.ensures

pub run_assign-returns-in_err-result_value-in_default : goal.run_assign-returns-in_err-result_value-in_default
run_assign-returns-in_err-result_value-in_default t c =
    let is : c.from_residual-in_err-result_value-in_default.result ≡ Err (c.in_err-result_value-in_default).field-0.0 = search rules in
    let meant = statement_in c.args.context.now (Tree.assign c.args.targets.now (expr c.args.value.now)) (env_of c.args.env.now) in
    let plain = assign_plain c.args.context.now c.args.targets.now (expr c.args.value.now) (env_of c.args.env.now) (not_call c.args.value.now c.in_default.not-Call) in
    subst (λ r. TellsEnv r (env_of c.args.env.now) meant) (sym is)
    (same_stop (c.in_err-result_value-in_default).field-0.0 (meaning_in c.args.context.now (expr c.args.value.now) (env_of c.args.env.now)) meant
    (λ f e. plain ∙ fault_then (meaning_in c.args.context.now (expr c.args.value.now) (env_of c.args.env.now)) (λ a. Ok (with_variables (names c.args.targets.now) (a ∷ []) (env_of c.args.env.now))) f e)
    (c.in_err-result_value-in_default).ensures)

pub run_assign-returns-in_ok-result_value-in_default : goal.run_assign-returns-in_ok-result_value-in_default
run_assign-returns-in_ok-result_value-in_default t c =
    let plain = assign_plain c.args.context.now c.args.targets.now (expr c.args.value.now) (env_of c.args.env.now) (not_call c.args.value.now c.in_default.not-Call) in
    let then = value_then (meaning_in c.args.context.now (expr c.args.value.now) (env_of c.args.env.now)) (λ a. Ok (with_variables (names c.args.targets.now) (a ∷ []) (env_of c.args.env.now))) (c.in_ok-result_value-in_default).result_value (c.in_ok-result_value-in_default).ensures in
    subst (λ m. TellsEnv c.assign_one.result (env_of c.assign_one.new.env) m) (sym (plain ∙ then)) c.assign_one.ensures

pub run_at-run_function-requires : goal.run_at-run_function-requires
run_at-run_function-requires t c =
    let h = rank_falls_inline c.args.context.now.left c.args.context.now.nest c.args.context.now.functions.now (omega (arith, c.if-nest-eq0.false)) in
    let b = body_below c.args.context.now.functions.now c.args.place c.index-context-place.result c.requires in
    (omega (arith, h, b, c.decreases), tt)

pub run_at-returns-then-left-eq0 : goal.run_at-returns-then-left-eq0
run_at-returns-then-left-eq0 t c =
    let fs = c.args.context.now.functions.now in
    let here = function_at fs c.args.place c.index-context-place.result c.requires in
    let f = get_or fs c.args.place c.index-context-place.result in
    let inline : f.inline ≡ false = c.if-current.false in
    let meant = too_deep (functions fs) c.args.context.now.turns (base_in (functions fs)) c.args.place (function f) c.args.args.items c.args.site here (run_inline (functions fs) c.args.context.now.turns (base_in (functions fs)) (run_deeper (functions fs) c.args.context.now.turns (base_in (functions fs)) c.args.context.now.left) c.args.context.now.nest) c.args.context.now.left (omega (arith, c.if-left-eq0.true)) inline in
    rw c.fault-then-left-eq0.ensures meant

pub run_at-run_function-requires-else-current : goal.run_at-run_function-requires-else-current
run_at-run_function-requires-else-current t c =
    let h = rank_falls c.args.context.now.left c.args.context.now.nest c.args.context.now.functions.now (omega (arith, c.if-left-eq0.false)) in
    let b = body_below c.args.context.now.functions.now c.args.place c.index-context-place.result c.requires in
    (omega (arith, h, b, c.decreases), tt)

pub run_at-returns-else-nest-eq0 : goal.run_at-returns-else-nest-eq0
run_at-returns-else-nest-eq0 t c =
    let fs = c.args.context.now.functions.now in
    let here = function_at fs c.args.place c.index-context-place.result c.requires in
    let f = get_or fs c.args.place c.index-context-place.result in
    let inline : f.inline ≡ true = c.if-current.true in
    let meant = runs_inline (functions fs) c.args.context.now.turns (base_in (functions fs)) c.args.place (function f) c.args.args.items c.args.site here (run_deeper (functions fs) c.args.context.now.turns (base_in (functions fs)) c.args.context.now.left) c.args.context.now.nest (omega (arith, c.if-nest-eq0.false)) inline in
    subst (λ m. TellsItems c.run_function.result m) (sym meant) c.run_function.ensures

pub run_at-returns-else-left-eq0 : goal.run_at-returns-else-left-eq0
run_at-returns-else-left-eq0 t c =
    let fs = c.args.context.now.functions.now in
    let here = function_at fs c.args.place c.index-context-place.result c.requires in
    let f = get_or fs c.args.place c.index-context-place.result in
    let inline : f.inline ≡ false = c.if-current.false in
    let meant = runs_deeper (functions fs) c.args.context.now.turns (base_in (functions fs)) c.args.place (function f) c.args.args.items c.args.site here (run_inline (functions fs) c.args.context.now.turns (base_in (functions fs)) (run_deeper (functions fs) c.args.context.now.turns (base_in (functions fs)) c.args.context.now.left) c.args.context.now.nest) c.args.context.now.left (length fs) (omega (arith, c.if-left-eq0.false)) (sym (length-functions fs)) inline in
    subst (λ m. TellsItems c.run_function-else-current.result m) (sym meant) c.run_function-else-current.ensures

pub run_function-returns-in_err-values : goal.run_function-returns-in_err-values
run_function-returns-in_err-values t c =
    let context = c.args.context.now in
    let current = context.current.now in
    let start =
    ap (λ env. with_variables (names_of_params current.params.items) c.args.args.items env) (sym (no_bindings c.new.result c.new.ensures.items))
    ∙ ap (λ ps. with_variables (names_of_params ps) c.args.args.items (env_of (roll-Environment (record { outer = None; bindings = c.new.result })))) (sym c.deref.ensures.value)
    ∙ same_value _ _ c.in_ok-bind_params.ensures in
    let ran = ap (λ b. block_in context b (env_of c.bind_params.new.env)) (sym (ap block c.deref-2.ensures.value)) ∙ c.in_ok-run_block.ensures in
    let whole = function_steps context c.args.args.items (env_of c.bind_params.new.env) (env_of c.run_block.new.env) start ran in
    let values = ap (λ es. meanings_in context (exprs es) (env_of c.run_block.new.env)) c.deref-3.ensures.value in
    let is : c.from_residual-in_err-values.result ≡ Err c.in_err-values.field-0.0 = search rules in
    subst (λ r. TellsItems r (function_in context c.args.args.items)) (sym is)
    (same_stop c.in_err-values.field-0.0 (meanings_in context (exprs c.deref-3.result.now) (env_of c.run_block.new.env)) (function_in context c.args.args.items)
    (λ f e. whole ∙ fault_then (meanings_in context (exprs current.values.items) (env_of c.run_block.new.env)) (results_in current.results.items current.ends) f (sym values ∙ e))
    c.in_err-values.ensures)

pub run_function-returns : goal.run_function-returns
run_function-returns t c =
    let context = c.args.context.now in
    let current = context.current.now in
    let start =
    ap (λ env. with_variables (names_of_params current.params.items) c.args.args.items env) (sym (no_bindings c.new.result c.new.ensures.items))
    ∙ ap (λ ps. with_variables (names_of_params ps) c.args.args.items (env_of (roll-Environment (record { outer = None; bindings = c.new.result })))) (sym c.deref.ensures.value)
    ∙ same_value _ _ c.in_ok-bind_params.ensures in
    let ran = ap (λ b. block_in context b (env_of c.bind_params.new.env)) (sym (ap block c.deref-2.ensures.value)) ∙ c.in_ok-run_block.ensures in
    let whole = function_steps context c.args.args.items (env_of c.bind_params.new.env) (env_of c.run_block.new.env) start ran in
    let values = ap (λ es. meanings_in context (exprs es) (env_of c.run_block.new.env)) c.deref-3.ensures.value in
    let then = value_then (meanings_in context (exprs current.values.items) (env_of c.run_block.new.env)) (results_in current.results.items current.ends) c.in_ok-values.values.items (sym values ∙ c.in_ok-values.ensures) in
    let types = ap (λ types. results_in types current.ends c.in_ok-values.values.items) c.deref-4.ensures.value in
    subst (λ m. TellsItems c.results_of.result m) (types ∙ sym then ∙ sym whole) c.results_of.ensures

pub evaluate-returns-in_err-results-in-Call : goal.evaluate-returns-in_err-results-in-Call
evaluate-returns-in_err-results-in-Call t c =
    let is : c.from_residual-in_err-results-in-Call.result ≡ Err c.in_err-results-in-Call.field-0.0 = search rules in
    let args = λ (es : Tree.Exprs). call_with (calls_in c.args.context.now) c.in-Call.name c.in-Call.site (meanings_in c.args.context.now es (env_of c.args.env.now)) in
    let es = ap exprs c.deref-in-Call.ensures.value in
    let whole = ap (λ e. meaning_in c.args.context.now e (env_of c.args.env.now)) (ap expr c.in-Call.is ∙ expr_call c.in-Call.name c.in-Call.es c.in-Call.site) in
    subst (λ r. Tells r (meaning_in c.args.context.now (expr c.args.e.now) (env_of c.args.env.now))) (sym is)
    (same_stop c.in_err-results-in-Call.field-0.0 (args (exprs c.deref-in-Call.result.now)) _
    (λ f e. whole ∙ fault_then (args (exprs c.in-Call.es.items)) (λ results. Ok (first_result results)) f (ap args (sym es) ∙ e))
    c.in_err-results-in-Call.ensures)

pub run_assign-returns-in_err-results-in-Call : goal.run_assign-returns-in_err-results-in-Call
run_assign-returns-in_err-results-in-Call t c =
    let is : c.from_residual.result ≡ Err c.in_err-results-in-Call.field-0.0 = search rules in
    let args = λ (es : Tree.Exprs). call_with (calls_in c.args.context.now) c.in-Call.name c.in-Call.site (meanings_in c.args.context.now es (env_of c.args.env.now)) in
    let es = ap exprs c.deref.ensures.value in
    let meant = statement_in c.args.context.now (Tree.assign c.args.targets.now (expr c.args.value.now)) (env_of c.args.env.now) in
    let whole = ap (λ e. statement_in c.args.context.now (Tree.assign c.args.targets.now e) (env_of c.args.env.now)) (ap expr c.in-Call.is ∙ expr_call c.in-Call.name c.in-Call.es c.in-Call.site) in
    subst (λ r. TellsEnv r (env_of c.args.env.now) meant) (sym is)
    (same_stop c.in_err-results-in-Call.field-0.0 (args (exprs c.deref.result.now)) meant
    (λ f e. whole ∙ fault_then (args (exprs c.in-Call.es.items)) (λ results. Ok (with_variables (names c.args.targets.now) results (env_of c.args.env.now))) f (ap args (sym es) ∙ e))
    c.in_err-results-in-Call.ensures)

pub run_assign-returns-in_ok-results-in-Call : goal.run_assign-returns-in_ok-results-in-Call
run_assign-returns-in_ok-results-in-Call t c =
    let args = λ (es : Tree.Exprs). call_with (calls_in c.args.context.now) c.in-Call.name c.in-Call.site (meanings_in c.args.context.now es (env_of c.args.env.now)) in
    let es = ap exprs c.deref.ensures.value in
    let whole = ap (λ e. statement_in c.args.context.now (Tree.assign c.args.targets.now e) (env_of c.args.env.now)) (ap expr c.in-Call.is ∙ expr_call c.in-Call.name c.in-Call.es c.in-Call.site) in
    let then = value_then (args (exprs c.in-Call.es.items)) (λ results. Ok (with_variables (names c.args.targets.now) results (env_of c.args.env.now))) c.in_ok-results-in-Call.results.items (ap args (sym es) ∙ c.in_ok-results-in-Call.ensures) in
    subst (λ m. TellsEnv c.assign_all.result (env_of c.assign_all.new.env) m) (sym (whole ∙ then)) c.assign_all.ensures

pub cell_at-returns : goal.cell_at-returns
cell_at-returns t c =
    let context = c.args.context.now in
    let g = c.args.g.now in
    let start =
    ap (with_index (index_view g.index) c.args.index.now) (sym (no_inner_bindings c.args.env c.new.result c.new.ensures.items))
    ∙ same_value _ _ c.in_ok-bind_index.ensures in
    let ran = ap (λ b. block_in context b (env_of c.bind_index.new.env)) (sym (ap block c.deref.ensures.value)) ∙ c.in_ok-run_block.ensures in
    let whole = cell_steps context g c.args.index.now (env_of c.args.env.now) (env_of c.bind_index.new.env) (env_of c.run_block.new.env) start ran in
    subst (λ m. Tells c.evaluate.result m) (sym whole) c.evaluate.ensures

pub run-returns-in_ok-run_block-in-Do : goal.run-returns-in_ok-run_block-in-Do
run-returns-in_ok-run_block-in-Do t c =
    let body = ap block c.deref-in-Do.ensures.value in
    let body' = ap block c.deref-in-Do-2.ensures.value in
    let first : block_in c.args.context.now (block c.in-Do.body.items) (env_of c.args.env.now) ≡ Ok (env_of c.run_block-in-Do.new.env) = ap (λ b. block_in c.args.context.now b (env_of c.args.env.now)) (sym body) ∙ c.in_ok-run_block-in-Do.ensures in
    let whole = ap (λ s. statement_in c.args.context.now s (env_of c.args.env.now)) (ap stmt c.in-Do.is ∙ stmt_do c.in-Do.body c.in-Do.cond c.in-Do.site c.in-Do.test) in
    let go = λ (n : ℕ). λ (b : Tree.Block). repeat_in c.args.context.now n c.in-Do.site c.in-Do.test (expr c.in-Do.cond) b in
    let then = value_then (block_in c.args.context.now (block c.in-Do.body.items) (env_of c.args.env.now)) (go (c.args.context.now.turns - 1) (block c.in-Do.body.items)) (env_of c.run_block-in-Do.new.env) first in
    let same : c.saturating_sub.result ≡ c.args.context.now.turns - 1 = search rules in
    let looped = ap (λ n. go n (block c.in-Do.body.items) (env_of c.run_block-in-Do.new.env)) same in
    let looped' = ap (λ b. go c.saturating_sub.result b (env_of c.run_block-in-Do.new.env)) body' in
    subst (λ m. TellsEnv c.repeat_while-in-Do.result (env_of c.repeat_while-in-Do.new.env) m) (looped' ∙ looped ∙ sym then ∙ sym whole) c.repeat_while-in-Do.ensures

-- ---- statements

pub run-returns-in-Replace : goal.run-returns-in-Replace
run-returns-in-Replace t c =
    let i = c.in-Replace in
    let same = sym (stmt_replace i.target i.bracket i.index i.value) ∙ ap stmt (sym i.is) in
    subst (λ s. TellsEnv c.run_replace.result (env_of c.run_replace.new.env) (statement_in c.args.context.now s (env_of c.args.env.now))) same c.run_replace.ensures

-- ---- conditionals and loops

pub run-returns-in_err-evaluate_test-in-If : goal.run-returns-in_err-evaluate_test-in-If
run-returns-in_err-evaluate_test-in-If t c =
    let i = c.in-If in
    let ctx = c.args.context.now in
    let env = env_of c.args.env.now in
    let stop = c.in_err-evaluate_test-in-If.field-0.0 in
    let is : c.from_residual.result ≡ Err stop = search rules in
    let whole = ap (λ s. statement_in ctx s env) (ap stmt i.is ∙ stmt_if i.cond i.yes i.no i.site) in
    subst (λ r. TellsEnv r env (statement_in ctx (stmt c.args.s.now) env)) (sym is)
    (same_stop stop (said i.site (meaning_in ctx (expr i.cond) env)) (statement_in ctx (stmt c.args.s.now) env)
    (λ f e. whole ∙ test_fault i.site (block_in ctx (block i.yes.items) env) (block_in ctx (block i.no.items) env) (meaning_in ctx (expr i.cond) env) f e)
    c.in_err-evaluate_test-in-If.ensures)

pub run-returns-then-branch : goal.run-returns-then-branch
run-returns-then-branch t c =
    let i = c.in-If in
    let ctx = c.args.context.now in
    let env = env_of c.args.env.now in
    let whole = ap (λ s. statement_in ctx s env) (ap stmt i.is ∙ stmt_if i.cond i.yes i.no i.site) in
    let chosen = test_true i.site (block_in ctx (block i.yes.items) env) (block_in ctx (block i.no.items) env) (meaning_in ctx (expr i.cond) env) (c.in_ok-evaluate_test-in-If.ensures ∙ ap Ok c.if-branch.true) in
    subst (λ m. TellsEnv c.run_block.result (env_of c.run_block.new.env) m) (ap (λ ss. block_in ctx (block ss) env) c.deref-then-branch.ensures.value ∙ sym chosen ∙ sym whole) c.run_block.ensures

pub run-returns-else-branch : goal.run-returns-else-branch
run-returns-else-branch t c =
    let i = c.in-If in
    let ctx = c.args.context.now in
    let env = env_of c.args.env.now in
    let whole = ap (λ s. statement_in ctx s env) (ap stmt i.is ∙ stmt_if i.cond i.yes i.no i.site) in
    let chosen = test_false i.site (block_in ctx (block i.yes.items) env) (block_in ctx (block i.no.items) env) (meaning_in ctx (expr i.cond) env) (c.in_ok-evaluate_test-in-If.ensures ∙ ap Ok c.if-branch.false) in
    subst (λ m. TellsEnv c.run_block-else-branch.result (env_of c.run_block-else-branch.new.env) m) (ap (λ ss. block_in ctx (block ss) env) c.deref-else-branch.ensures.value ∙ sym chosen ∙ sym whole) c.run_block-else-branch.ensures

pub repeat_while-returns-in_err-evaluate_test : goal.repeat_while-returns-in_err-evaluate_test
repeat_while-returns-in_err-evaluate_test t c =
    let a = c.args in
    let ctx = a.context.now in
    let env = env_of c.loop-site.env in
    let stop = c.in_err-evaluate_test.field-0.0 in
    let is : c.from_residual.result ≡ Err stop = search rules in
    let whole = repeat_in ctx a.turns a.site a.test_site (expr a.cond.now) (block a.body.now) (env_of a.env.now) in
    subst (λ r. TellsEnv r env whole) (sym is)
    (same_stop stop (said a.test_site (meaning_in ctx (expr a.cond.now) env)) whole
    (λ f e. sym c.loop-site.invariant ∙ turn_test_fault a.site a.test_site (meaning_in ctx (expr a.cond.now)) (block_in ctx (block a.body.now)) c.loop-site.left env f e)
    c.in_err-evaluate_test.ensures)

pub repeat_while-returns-then-not-branch : goal.repeat_while-returns-then-not-branch
repeat_while-returns-then-not-branch t c =
    let a = c.args in
    let ctx = a.context.now in
    sym c.loop-site.invariant
    ∙ turn_ends a.site a.test_site (meaning_in ctx (expr a.cond.now)) (block_in ctx (block a.body.now)) c.loop-site.left (env_of c.loop-site.env) (c.in_ok-evaluate_test.ensures ∙ ap Ok c.if-not-branch.true)

pub repeat_while-returns-then-left-eq0 : goal.repeat_while-returns-then-left-eq0
repeat_while-returns-then-left-eq0 t c =
    let a = c.args in
    let ctx = a.context.now in
    rw c.fault.ensures (sym c.loop-site.invariant
    ∙ turn_over a.site a.test_site (meaning_in ctx (expr a.cond.now)) (block_in ctx (block a.body.now)) c.loop-site.left (env_of c.loop-site.env) (omega (arith, c.if-left-eq0.true)) (c.in_ok-evaluate_test.ensures ∙ ap Ok c.if-not-branch.false))

pub repeat_while-returns-in_err-run_block : goal.repeat_while-returns-in_err-run_block
repeat_while-returns-in_err-run_block t c =
    let a = c.args in
    let ctx = a.context.now in
    let env = env_of c.loop-site.env in
    let test = meaning_in ctx (expr a.cond.now) in
    let body = block_in ctx (block a.body.now) in
    let stop = c.in_err-run_block.field-0.0 in
    let is : c.from_residual-in_err-run_block.result ≡ Err stop = search rules in
    let whole = repeat_in ctx a.turns a.site a.test_site (expr a.cond.now) (block a.body.now) (env_of a.env.now) in
    let goes = turn_goes a.site a.test_site test body c.loop-site.left env (omega (arith, c.if-left-eq0.false)) (c.in_ok-evaluate_test.ensures ∙ ap Ok c.if-not-branch.false) in
    subst (λ r. TellsEnv r (env_of c.run_block.new.env) whole) (sym is)
    (same_stop stop (body env) whole
    (λ f e. sym c.loop-site.invariant ∙ goes ∙ fault_then (body env) (repeat_in ctx (c.loop-site.left - 1) a.site a.test_site (expr a.cond.now) (block a.body.now)) f e)
    c.in_err-run_block.ensures)

pub repeat_while-loop-site-preserved : goal.repeat_while-loop-site-preserved
repeat_while-loop-site-preserved t c =
    let a = c.args in
    let ctx = a.context.now in
    let env = env_of c.loop-site.env in
    let test = meaning_in ctx (expr a.cond.now) in
    let body = block_in ctx (block a.body.now) in
    let goes = turn_goes a.site a.test_site test body c.loop-site.left env (omega (arith, c.if-left-eq0.false)) (c.in_ok-evaluate_test.ensures ∙ ap Ok c.if-not-branch.false) in
    let then = value_then (body env) (repeat_in ctx (c.loop-site.left - 1) a.site a.test_site (expr a.cond.now) (block a.body.now)) (env_of c.run_block.new.env) c.in_ok-run_block.ensures in
    sym (goes ∙ then) ∙ c.loop-site.invariant

-- ---- blocks and functions

pub run_replace-returns-in_err-i : goal.run_replace-returns-in_err-i
run_replace-returns-in_err-i t c =
    let a = c.args in
    let env = env_of a.env.now in
    let M = λ (e : Tree.Expr). meaning_in a.context.now e env in
    let stop = c.in_err-i.field-0.0 in
    let is : c.from_residual.result ≡ Err stop = search rules in
    let put = λ (x y : ArrayValue). and_then (at_site a.bracket (replace (or_zero (env a.target.now.name)) x y)) (λ z. Ok (with_variable a.target.now.name z env)) in
    stopped_env c.from_residual.result stop env (M (expr a.index.now)) (λ x. and_then (M (expr a.value.now)) (put x))
    (statement_in a.context.now (Tree.replace a.target.now a.bracket (expr a.index.now) (expr a.value.now)) env) is refl c.in_err-i.ensures

pub run_replace-returns-in_err-v : goal.run_replace-returns-in_err-v
run_replace-returns-in_err-v t c =
    let a = c.args in
    let env = env_of a.env.now in
    let M = λ (e : Tree.Expr). meaning_in a.context.now e env in
    let x = c.in_ok-i.i in
    let stop = c.in_err-v.field-0.0 in
    let is : c.from_residual-in_err-v.result ≡ Err stop = search rules in
    let put = λ (x y : ArrayValue). and_then (at_site a.bracket (replace (or_zero (env a.target.now.name)) x y)) (λ z. Ok (with_variable a.target.now.name z env)) in
    stopped_env c.from_residual-in_err-v.result stop env (M (expr a.value.now)) (put x)
    (statement_in a.context.now (Tree.replace a.target.now a.bracket (expr a.index.now) (expr a.value.now)) env) is
    (value_then (M (expr a.index.now)) (λ x. and_then (M (expr a.value.now)) (put x)) x c.in_ok-i.ensures) c.in_err-v.ensures

pub run_replace-returns-in_err-a : goal.run_replace-returns-in_err-a
run_replace-returns-in_err-a t c =
    let a = c.args in
    let env = env_of a.env.now in
    let M = λ (e : Tree.Expr). meaning_in a.context.now e env in
    let x = c.in_ok-i.i in
    let y = c.in_ok-v.v in
    let stop = c.in_err-a.field-0.0 in
    let is : c.from_residual-in_err-a.result ≡ Err stop = search rules in
    let put = λ (x y : ArrayValue). and_then (at_site a.bracket (replace (or_zero (env a.target.now.name)) x y)) (λ z. Ok (with_variable a.target.now.name z env)) in
    stopped_env c.from_residual-in_err-a.result stop env (at_site a.bracket (replace (or_zero (env a.target.now.name)) x y)) (λ z. Ok (with_variable a.target.now.name z env))
    (statement_in a.context.now (Tree.replace a.target.now a.bracket (expr a.index.now) (expr a.value.now)) env) is
    (value_then (M (expr a.index.now)) (λ x. and_then (M (expr a.value.now)) (put x)) x c.in_ok-i.ensures ∙ value_then (M (expr a.value.now)) (put x) y c.in_ok-v.ensures) c.in_err-a.ensures

pub run_replace-returns : goal.run_replace-returns
run_replace-returns t c =
    let a = c.args in
    let env = env_of a.env.now in
    let M = λ (e : Tree.Expr). meaning_in a.context.now e env in
    let x = c.in_ok-i.i in
    let y = c.in_ok-v.v in
    let put = λ (x y : ArrayValue). and_then (at_site a.bracket (replace (or_zero (env a.target.now.name)) x y)) (λ z. Ok (with_variable a.target.now.name z env)) in
    value_then (M (expr a.index.now)) (λ x. and_then (M (expr a.value.now)) (put x)) x c.in_ok-i.ensures ∙ value_then (M (expr a.value.now)) (put x) y c.in_ok-v.ensures
    ∙ value_then (at_site a.bracket (replace (or_zero (env a.target.now.name)) x y)) (λ z. Ok (with_variable a.target.now.name z env)) c.in_ok-a.a c.in_ok-a.ensures
    ∙ ap Ok (sym c.in_ok-assign.ensures)

pub run_block-returns-in_err-run : goal.run_block-returns-in_err-run
run_block-returns-in_err-run t c =
    let a = c.args in
    let ctx = a.context.now in
    let ss = a.ss.now in
    let k = c.loop-s.s-index in
    let env = env_of c.loop-s.env in
    let item = c.s-item.result in
    let rest = block (drop (k + 1) ss) in
    let stop = c.in_err-run.field-0.0 in
    let is : c.from_residual.result ≡ Err stop = search rules in
    let meant = block_in ctx (block ss) (env_of a.env.now) in
    let whole = sym c.loop-s.invariant ∙ ap (λ b. block_in ctx b env) (ap block (drop_more ss k item c.loop-s-test.true) ∙ ap (λ x. Tree.stmt_and (stmt x) rest) (sym c.s-item.is)) in
    stopped_env c.from_residual.result stop (env_of c.run.new.env) (statement_in ctx (stmt item) env) (block_in ctx rest) meant is whole c.in_err-run.ensures

pub run_block-loop-s-preserved : goal.run_block-loop-s-preserved
run_block-loop-s-preserved t c =
    let a = c.args in
    let ctx = a.context.now in
    let ss = a.ss.now in
    let k = c.loop-s.s-index in
    let env = env_of c.loop-s.env in
    let item = c.s-item.result in
    let rest = block (drop (k + 1) ss) in
    let whole = ap (λ b. block_in ctx b env) (ap block (drop_more ss k item c.loop-s-test.true) ∙ ap (λ x. Tree.stmt_and (stmt x) rest) (sym c.s-item.is))
    ∙ value_then (statement_in ctx (stmt item) env) (block_in ctx rest) (env_of c.run.new.env) c.in_ok-run.ensures in
    sym whole ∙ c.loop-s.invariant

pub run_block-returns : goal.run_block-returns
run_block-returns t c =
    let a = c.args in
    let ss = a.ss.now in
    let past : length ss ≤ c.loop-s.s-index = search rules in
    sym c.loop-s.invariant ∙ ap (λ xs. block_in a.context.now (block xs) (env_of c.loop-s.env)) (drop_all c.loop-s.s-index ss past)

pub run-returns-in_err-run_block-in-Do : goal.run-returns-in_err-run_block-in-Do
run-returns-in_err-run_block-in-Do t c =
    let i = c.in-Do in
    let ctx = c.args.context.now in
    let env = env_of c.args.env.now in
    let stop = c.in_err-run_block-in-Do.field-0.0 in
    let is : c.from_residual-in_err-run_block-in-Do.result ≡ Err stop = search rules in
    let whole = ap (λ s. statement_in ctx s env) (ap stmt i.is ∙ stmt_do i.body i.cond i.site i.test ∙ ap (λ ss. Tree.do_while (block ss) (expr i.cond) i.site i.test) (sym c.deref-in-Do.ensures.value)) in
    stopped_env c.from_residual-in_err-run_block-in-Do.result stop (env_of c.run_block-in-Do.new.env) (block_in ctx (block c.deref-in-Do.result.now) env)
    (repeat_in ctx (ctx.turns - 1) i.site i.test (expr i.cond) (block c.deref-in-Do.result.now)) (statement_in ctx (stmt c.args.s.now) env) is whole c.in_err-run_block-in-Do.ensures

pub cell_at-returns-in_err-run_block : goal.cell_at-returns-in_err-run_block
cell_at-returns-in_err-run_block t c =
    let context = c.args.context.now in
    let g = c.args.g.now in
    let start =
    ap (with_index (index_view g.index) c.args.index.now) (sym (no_inner_bindings c.args.env c.new.result c.new.ensures.items))
    ∙ same_value _ _ c.in_ok-bind_index.ensures in
    let body = ap block c.deref.ensures.value in
    let stop = c.in_err-run_block.field-0.0 in
    let is : c.from_residual-in_err-run_block.result ≡ Err stop = search rules in
    stopped c.from_residual-in_err-run_block.result stop (block_in context (block c.deref.result.now) (env_of c.bind_index.new.env)) (meaning_in context (expr g.cell))
    (cell_in context g c.args.index.now (env_of c.args.env.now)) is
    (λ j. and_then (block_in context (sym body j) (start j)) (meaning_in context (expr g.cell))) c.in_err-run_block.ensures

pub evaluate-returns-in-Binary : goal.evaluate-returns-in-Binary
evaluate-returns-in-Binary = expression_answers.evaluate-returns-in-Binary

pub evaluate-returns-in-Select : goal.evaluate-returns-in-Select
evaluate-returns-in-Select = expression_answers.evaluate-returns-in-Select

pub evaluate-returns-in_err-evaluate_test-in-Choice : goal.evaluate-returns-in_err-evaluate_test-in-Choice
evaluate-returns-in_err-evaluate_test-in-Choice = expression_answers.evaluate-returns-in_err-evaluate_test-in-Choice

pub evaluate-returns-then-branch : goal.evaluate-returns-then-branch
evaluate-returns-then-branch = expression_answers.evaluate-returns-then-branch

pub evaluate-returns-else-branch : goal.evaluate-returns-else-branch
evaluate-returns-else-branch = expression_answers.evaluate-returns-else-branch

pub evaluate-returns-in-Variable : goal.evaluate-returns-in-Variable
evaluate-returns-in-Variable = expression_answers.evaluate-returns-in-Variable

pub evaluate-returns-in_err-values-in-Literal : goal.evaluate-returns-in_err-values-in-Literal
evaluate-returns-in_err-values-in-Literal = expression_answers.evaluate-returns-in_err-values-in-Literal

pub evaluate-returns-in_ok-values-in-Literal : goal.evaluate-returns-in_ok-values-in-Literal
evaluate-returns-in_ok-values-in-Literal = expression_answers.evaluate-returns-in_ok-values-in-Literal

pub evaluate-returns-in_err-a-in-Unary : goal.evaluate-returns-in_err-a-in-Unary
evaluate-returns-in_err-a-in-Unary = expression_answers.evaluate-returns-in_err-a-in-Unary

pub evaluate-returns-in_ok-a-in-Unary : goal.evaluate-returns-in_ok-a-in-Unary
evaluate-returns-in_ok-a-in-Unary = expression_answers.evaluate-returns-in_ok-a-in-Unary

pub evaluate-returns-in_err-values-in-Builtin : goal.evaluate-returns-in_err-values-in-Builtin
evaluate-returns-in_err-values-in-Builtin = expression_answers.evaluate-returns-in_err-values-in-Builtin

pub evaluate-returns-in_ok-values-in-Builtin : goal.evaluate-returns-in_ok-values-in-Builtin
evaluate-returns-in_ok-values-in-Builtin = expression_answers.evaluate-returns-in_ok-values-in-Builtin

pub evaluate-returns-in_ok-results-in-Call : goal.evaluate-returns-in_ok-results-in-Call
evaluate-returns-in_ok-results-in-Call = expression_answers.evaluate-returns-in_ok-results-in-Call

pub evaluate-returns-in-With : goal.evaluate-returns-in-With
evaluate-returns-in-With = expression_answers.evaluate-returns-in-With

pub evaluate_binary-returns-in_err-a : goal.evaluate_binary-returns-in_err-a
evaluate_binary-returns-in_err-a = expression_answers.evaluate_binary-returns-in_err-a

pub evaluate_binary-returns-in_err-b : goal.evaluate_binary-returns-in_err-b
evaluate_binary-returns-in_err-b = expression_answers.evaluate_binary-returns-in_err-b

pub evaluate_binary-returns : goal.evaluate_binary-returns
evaluate_binary-returns = expression_answers.evaluate_binary-returns

pub evaluate_test-returns-in_err-c : goal.evaluate_test-returns-in_err-c
evaluate_test-returns-in_err-c = expression_answers.evaluate_test-returns-in_err-c

pub evaluate_select-returns-in_err-a : goal.evaluate_select-returns-in_err-a
evaluate_select-returns-in_err-a = expression_answers.evaluate_select-returns-in_err-a

pub evaluate_select-returns-in_err-i-2 : goal.evaluate_select-returns-in_err-i-2
evaluate_select-returns-in_err-i-2 = expression_answers.evaluate_select-returns-in_err-i-2

pub evaluate_select-returns : goal.evaluate_select-returns
evaluate_select-returns = expression_answers.evaluate_select-returns

pub evaluate_all-returns-in_err-value : goal.evaluate_all-returns-in_err-value
evaluate_all-returns-in_err-value = expression_answers.evaluate_all-returns-in_err-value

pub evaluate_all-returns : goal.evaluate_all-returns
evaluate_all-returns = expression_answers.evaluate_all-returns

pub evaluate_call-returns-in_err-args : goal.evaluate_call-returns-in_err-args
evaluate_call-returns-in_err-args = expression_answers.evaluate_call-returns-in_err-args

pub evaluate_call-returns : goal.evaluate_call-returns
evaluate_call-returns = expression_answers.evaluate_call-returns

pub held_cell-loop-i-preserved : goal.held_cell-loop-i-preserved
held_cell-loop-i-preserved = with_answers.held_cell-loop-i-preserved

pub held_cell-returns-clause-told : goal.held_cell-returns-clause-told
held_cell-returns-clause-told = with_answers.held_cell-returns-clause-told

pub evaluate_with-returns-in_err-bounds : goal.evaluate_with-returns-in_err-bounds
evaluate_with-returns-in_err-bounds = with_answers.evaluate_with-returns-in_err-bounds

pub evaluate_with-returns-in_err-shape : goal.evaluate_with-returns-in_err-shape
evaluate_with-returns-in_err-shape = with_answers.evaluate_with-returns-in_err-shape

pub evaluate_with-returns-in_err-plan-in-Genarray : goal.evaluate_with-returns-in_err-plan-in-Genarray
evaluate_with-returns-in_err-plan-in-Genarray = with_answers.evaluate_with-returns-in_err-plan-in-Genarray

pub evaluate_with-returns-in_err-plan-in-Modarray : goal.evaluate_with-returns-in_err-plan-in-Modarray
evaluate_with-returns-in_err-plan-in-Modarray = with_answers.evaluate_with-returns-in_err-plan-in-Modarray

pub evaluate_with-returns-in_err-plan-in-Fold : goal.evaluate_with-returns-in_err-plan-in-Fold
evaluate_with-returns-in_err-plan-in-Fold = with_answers.evaluate_with-returns-in_err-plan-in-Fold

pub evaluate_with-array_cells-requires : goal.evaluate_with-array_cells-requires
evaluate_with-array_cells-requires = with_answers.evaluate_with-array_cells-requires

pub evaluate_with-array_cells-requires-in-Modarray : goal.evaluate_with-array_cells-requires-in-Modarray
evaluate_with-array_cells-requires-in-Modarray = with_answers.evaluate_with-array_cells-requires-in-Modarray

pub evaluate_with-fold_cells-requires : goal.evaluate_with-fold_cells-requires
evaluate_with-fold_cells-requires = with_answers.evaluate_with-fold_cells-requires

pub evaluate_with-returns-in-Genarray : goal.evaluate_with-returns-in-Genarray
evaluate_with-returns-in-Genarray = with_answers.evaluate_with-returns-in-Genarray

pub evaluate_with-returns-in-Modarray : goal.evaluate_with-returns-in-Modarray
evaluate_with-returns-in-Modarray = with_answers.evaluate_with-returns-in-Modarray

pub evaluate_with-returns : goal.evaluate_with-returns
evaluate_with-returns = with_answers.evaluate_with-returns

pub array_cells-returns-in_err-cell : goal.array_cells-returns-in_err-cell
array_cells-returns-in_err-cell = with_answers.array_cells-returns-in_err-cell

pub array_cells-loop-place-preserved : goal.array_cells-loop-place-preserved
array_cells-loop-place-preserved = with_answers.array_cells-loop-place-preserved

pub fold_cells-returns-in_err-cell : goal.fold_cells-returns-in_err-cell
fold_cells-returns-in_err-cell = with_answers.fold_cells-returns-in_err-cell

pub fold_cells-loop-place-preserved : goal.fold_cells-loop-place-preserved
fold_cells-loop-place-preserved = with_answers.fold_cells-loop-place-preserved

pub evaluate_bound-returns-in-Dot : goal.evaluate_bound-returns-in-Dot
evaluate_bound-returns-in-Dot = with_answers.evaluate_bound-returns-in-Dot

pub evaluate_bound-returns-in_err-value-in-Given : goal.evaluate_bound-returns-in_err-value-in-Given
evaluate_bound-returns-in_err-value-in-Given = with_answers.evaluate_bound-returns-in_err-value-in-Given

pub evaluate_bound-returns-in_ok-value-in-Given : goal.evaluate_bound-returns-in_ok-value-in-Given
evaluate_bound-returns-in_ok-value-in-Given = with_answers.evaluate_bound-returns-in_ok-value-in-Given

pub evaluate_maybe-returns-in-None : goal.evaluate_maybe-returns-in-None
evaluate_maybe-returns-in-None = with_answers.evaluate_maybe-returns-in-None

pub evaluate_maybe-returns-in_err-value-in-Some : goal.evaluate_maybe-returns-in_err-value-in-Some
evaluate_maybe-returns-in_err-value-in-Some = with_answers.evaluate_maybe-returns-in_err-value-in-Some

pub evaluate_maybe-returns-in_ok-value-in-Some : goal.evaluate_maybe-returns-in_ok-value-in-Some
evaluate_maybe-returns-in_ok-value-in-Some = with_answers.evaluate_maybe-returns-in_ok-value-in-Some

pub evaluate_operation-returns-in_err-shape-in-Genarray : goal.evaluate_operation-returns-in_err-shape-in-Genarray
evaluate_operation-returns-in_err-shape-in-Genarray = with_answers.evaluate_operation-returns-in_err-shape-in-Genarray

pub evaluate_operation-returns-in_err-given-in-Genarray : goal.evaluate_operation-returns-in_err-given-in-Genarray
evaluate_operation-returns-in_err-given-in-Genarray = with_answers.evaluate_operation-returns-in_err-given-in-Genarray

pub evaluate_operation-returns-in_ok-default-in-Genarray : goal.evaluate_operation-returns-in_ok-default-in-Genarray
evaluate_operation-returns-in_ok-default-in-Genarray = with_answers.evaluate_operation-returns-in_ok-default-in-Genarray

pub evaluate_operation-returns-in_err-array-in-Modarray : goal.evaluate_operation-returns-in_err-array-in-Modarray
evaluate_operation-returns-in_err-array-in-Modarray = with_answers.evaluate_operation-returns-in_err-array-in-Modarray

pub evaluate_operation-returns-in_ok-array-in-Modarray : goal.evaluate_operation-returns-in_ok-array-in-Modarray
evaluate_operation-returns-in_ok-array-in-Modarray = with_answers.evaluate_operation-returns-in_ok-array-in-Modarray

pub evaluate_operation-returns-in_err-neutral-in-Fold : goal.evaluate_operation-returns-in_err-neutral-in-Fold
evaluate_operation-returns-in_err-neutral-in-Fold = with_answers.evaluate_operation-returns-in_err-neutral-in-Fold

pub evaluate_operation-returns-in_ok-neutral-in-Fold : goal.evaluate_operation-returns-in_ok-neutral-in-Fold
evaluate_operation-returns-in_ok-neutral-in-Fold = with_answers.evaluate_operation-returns-in_ok-neutral-in-Fold

pub evaluate_generators-returns-in_err-bounds : goal.evaluate_generators-returns-in_err-bounds
evaluate_generators-returns-in_err-bounds = with_answers.evaluate_generators-returns-in_err-bounds

pub evaluate_generators-loop-g-preserved : goal.evaluate_generators-loop-g-preserved
evaluate_generators-loop-g-preserved = with_answers.evaluate_generators-loop-g-preserved

pub evaluate_generators-returns : goal.evaluate_generators-returns
evaluate_generators-returns = with_answers.evaluate_generators-returns

pub evaluate_generator-returns-in_err-lower : goal.evaluate_generator-returns-in_err-lower
evaluate_generator-returns-in_err-lower = with_answers.evaluate_generator-returns-in_err-lower

pub evaluate_generator-returns-in_err-upper : goal.evaluate_generator-returns-in_err-upper
evaluate_generator-returns-in_err-upper = with_answers.evaluate_generator-returns-in_err-upper

pub evaluate_generator-returns-in_err-step : goal.evaluate_generator-returns-in_err-step
evaluate_generator-returns-in_err-step = with_answers.evaluate_generator-returns-in_err-step

pub evaluate_generator-returns-in_err-width : goal.evaluate_generator-returns-in_err-width
evaluate_generator-returns-in_err-width = with_answers.evaluate_generator-returns-in_err-width

pub run_function-returns-in_err-run_block : goal.run_function-returns-in_err-run_block
run_function-returns-in_err-run_block = with_answers.run_function-returns-in_err-run_block

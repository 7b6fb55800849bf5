use Rattle.std.proofs.Common.{rules, ap, sym, ◌∙◌, Option}
use Rattle.sac_ast.specs.View.{expr, maybe, bound}
use Rattle.sac_ast.specs.declared.Expression.{Expression}
use Rattle.sac_ast.specs.declared.Bound.{Bound}
use Rattle.sac_ast.proofs.Views.{expr_literal, expr_unary, expr_binary, expr_choice, expr_select, expr_call, expr_builtin, expr_with, stmt_assign, stmt_replace, stmt_if, stmt_while, stmt_do, generator_is, operation_genarray, operation_modarray, operation_fold, bound_given}
use Rattle.sac_print.specs.declared.level.Level.TheVariants as level
use Rattle.sac_print.specs.Operators.{level_of, tighter, is_looser}
use Rattle.sac_print.specs.Canonical.{spell_bound, spell_gen, spell_default, spell_maybe}
use Rattle.sac_print.proofs.Printing.{◌▹◌, by_name, by_text, commas_turn_at, commas_whole, joined_turn, joined_whole}
use Rattle.sac_print.proofs.Trees.{element, spell_statement, spell_generator, list_is, block_is, generators_are, select_is, replace_is, long_index_is, short_index_is, other_index_is, genarray_is, else_is, body_is, function_is, infix_is, seen, seen_index, seen_stmt, seen_operation, listed, in_block, in_else, in_body, in_targets, in_gens, boxed, boxed_index, boxed_operation, needed, needed_end, at_level}
use Rattle.sac_print.proofs.tree.+print.Goals as goal
use Rattle.sac_print.proofs.tree.+print.Goals.{put_index-in_default-via-in-Literal+else-len-gt1, put_index-in_default-via-in_default}

pub put_block-returns : goal.put_block-returns
put_block-returns t c = c.in_ok-put.ensures ▹ c.in_ok-put_statements.ensures ▹ c.put-2.ensures

pub put_condition-returns : goal.put_condition-returns
put_condition-returns t c = c.in_ok-put.ensures ▹ c.in_ok-put_expression.ensures ▹ c.put-2.ensures

pub put_else-returns : goal.put_else-returns
put_else-returns t c = by_name (else_is c.args.ss.now (search rules)) (c.in_ok-put.ensures ▹ c.put_block.ensures)

pub put_body-returns : goal.put_body-returns
put_body-returns t c = by_name (body_is c.args.ss.now (search rules)) c.put_block.ensures

pub put_expression-returns-in_ok-put_list-in-Literal : goal.put_expression-returns-in_ok-put_list-in-Literal
put_expression-returns-in_ok-put_list-in-Literal t c =
    by_name (seen c.args.wanted c.in-Literal.is (expr_literal c.in-Literal.es c.in-Literal.field-1))
    (c.in_ok-put-in-Literal.ensures ▹ listed c.deref.ensures.value c.in_ok-put_list-in-Literal.ensures ▹ c.put-in-Literal-2.ensures)

pub put_expression-returns-in_ok-put_expression-in-Unary : goal.put_expression-returns-in_ok-put_expression-in-Unary
put_expression-returns-in_ok-put_expression-in-Unary t c =
    by_name (seen c.args.wanted c.in-Unary.is (expr_unary c.in-Unary.op c.in-Unary.e c.in-Unary.field-2))
    (needed c.is_looser-needed.ensures c.in_ok-open-in-Unary.ensures ▹ by_text c.operator_text.ensures c.in_ok-put-in-Unary.ensures ▹ boxed level.Prefix c.deref-in-Unary.ensures c.in_ok-put_expression-in-Unary.ensures ▹ needed_end c.is_looser-needed.ensures c.close.ensures)

pub put_expression-returns-then-is_function : goal.put_expression-returns-then-is_function
put_expression-returns-then-is_function t c =
    by_name (seen c.args.wanted c.in-Binary.is (expr_binary c.in-Binary.op c.in-Binary.a c.in-Binary.b c.in-Binary.field-3) ∙ function_is c.in-Binary.op (expr c.in-Binary.a.value) (expr c.in-Binary.b.value) c.in-Binary.field-3 c.args.wanted (sym c.is_function.ensures ∙ c.if-is_function.true))
    (by_text c.operator_text-then-is_function.ensures c.in_ok-put-in-Binary.ensures ▹ c.in_ok-put-in-Binary-2.ensures
    ▹ (boxed level.Expression c.deref-then-is_function.ensures c.in_ok-put_expression-in-Binary.ensures ▹ c.in_ok-put-in-Binary-3.ensures ▹ boxed level.Expression c.deref-then-is_function-2.ensures c.in_ok-put_expression-in-Binary-2.ensures)
    ▹ c.put-then-is_function-4.ensures)

pub put_expression-returns-in_ok-put_expression-in-Binary-4 : goal.put_expression-returns-in_ok-put_expression-in-Binary-4
put_expression-returns-in_ok-put_expression-in-Binary-4 t c =
    let own = c.of-level.ensures in
    let looser = c.is_looser-needed-in-Binary.ensures ∙ ap (λ l. is_looser l c.args.wanted) own in
    by_name (seen c.args.wanted c.in-Binary.is (expr_binary c.in-Binary.op c.in-Binary.a c.in-Binary.b c.in-Binary.field-3) ∙ infix_is c.in-Binary.op (expr c.in-Binary.a.value) (expr c.in-Binary.b.value) c.in-Binary.field-3 c.args.wanted (sym c.is_function.ensures ∙ c.if-is_function.false))
    (needed looser c.in_ok-open-in-Binary.ensures
    ▹ boxed (level_of c.in-Binary.op) c.deref-in-Binary.ensures (at_level c.deref-in-Binary.result.now own c.in_ok-put_expression-in-Binary-3.ensures)
    ▹ by_text c.operator_text-in-Binary.ensures c.in_ok-put-in-Binary-4.ensures
    ▹ boxed (tighter (level_of c.in-Binary.op)) c.deref-in-Binary-2.ensures (at_level c.deref-in-Binary-2.result.now (c.tighter.ensures ∙ ap tighter own) c.in_ok-put_expression-in-Binary-4.ensures)
    ▹ needed_end looser c.close-in-Binary.ensures)

pub put_expression-returns-in_ok-put_expression-in-Choice-3 : goal.put_expression-returns-in_ok-put_expression-in-Choice-3
put_expression-returns-in_ok-put_expression-in-Choice-3 t c =
    by_name (seen c.args.wanted c.in-Choice.is (expr_choice c.in-Choice.test c.in-Choice.a c.in-Choice.b c.in-Choice.field-3))
    (needed c.is_looser-needed-in-Choice.ensures c.in_ok-open-in-Choice.ensures
    ▹ boxed level.Disjunction c.deref-in-Choice.ensures c.in_ok-put_expression-in-Choice.ensures
    ▹ c.in_ok-put-in-Choice.ensures
    ▹ boxed level.Expression c.deref-in-Choice-2.ensures c.in_ok-put_expression-in-Choice-2.ensures
    ▹ c.in_ok-put-in-Choice-2.ensures
    ▹ boxed level.Expression c.deref-in-Choice-3.ensures c.in_ok-put_expression-in-Choice-3.ensures
    ▹ needed_end c.is_looser-needed-in-Choice.ensures c.close-in-Choice.ensures)

pub put_expression-returns-in_ok-put_index-in-Select : goal.put_expression-returns-in_ok-put_index-in-Select
put_expression-returns-in_ok-put_index-in-Select t c =
    by_name (seen c.args.wanted c.in-Select.is (expr_select c.in-Select.a c.in-Select.i c.in-Select.field-2) ∙ select_is (expr c.in-Select.a.value) (expr c.in-Select.i.value) c.in-Select.field-2 c.args.wanted)
    (boxed level.Postfix c.deref-in-Select.ensures c.in_ok-put_expression-in-Select.ensures ▹ c.in_ok-put-in-Select.ensures ▹ boxed_index c.deref-in-Select-2.ensures c.in_ok-put_index-in-Select.ensures ▹ c.put-in-Select-2.ensures)

pub put_expression-returns-in_ok-put_list-in-Call : goal.put_expression-returns-in_ok-put_list-in-Call
put_expression-returns-in_ok-put_list-in-Call t c =
    by_name (seen c.args.wanted c.in-Call.is (expr_call c.in-Call.name c.in-Call.es c.in-Call.field-2))
    (by_text c.as_str-in-Call.ensures.bytes c.in_ok-put-in-Call.ensures ▹ c.in_ok-put-in-Call-2.ensures ▹ listed c.deref-in-Call.ensures.value c.in_ok-put_list-in-Call.ensures ▹ c.put-in-Call-3.ensures)

pub put_expression-returns-in_ok-put_list-in-Builtin : goal.put_expression-returns-in_ok-put_list-in-Builtin
put_expression-returns-in_ok-put_list-in-Builtin t c =
    by_name (seen c.args.wanted c.in-Builtin.is (expr_builtin c.in-Builtin.b c.in-Builtin.es c.in-Builtin.field-2))
    (by_text c.builtin_text.ensures c.in_ok-put-in-Builtin.ensures ▹ c.in_ok-put-in-Builtin-2.ensures ▹ listed c.deref-in-Builtin.ensures.value c.in_ok-put_list-in-Builtin.ensures ▹ c.put-in-Builtin-3.ensures)

pub put_expression-returns-in_ok-put-in-With-4 : goal.put_expression-returns-in_ok-put-in-With-4
put_expression-returns-in_ok-put-in-With-4 t c =
    by_name (seen c.args.wanted c.in-With.is (expr_with c.in-With.gs c.in-With.op c.in-With.field-2))
    (c.in_ok-put-in-With.ensures ▹ (c.in_ok-put-in-With-2.ensures ▹ in_gens c.deref-in-With.ensures.value c.in_ok-put_generators-in-With.ensures ▹ c.in_ok-put-in-With-3.ensures) ▹ c.in_ok-put-in-With-4.ensures ▹ boxed_operation c.deref-in-With-2.ensures c.put_operation.ensures)

pub put_generator-returns : goal.put_generator-returns
put_generator-returns t c =
    by_name (ap spell_gen (generator_is c.args.g.now))
    ((c.in_ok-put.ensures
    ▹ (c.in_ok-put_bound.ensures ▹ by_text c.bound_sign.ensures c.in_ok-put-2.ensures ▹ c.in_ok-put_index_names.ensures ▹ by_text c.bound_sign-2.ensures c.in_ok-put-3.ensures ▹ c.in_ok-put_bound-2.ensures ▹ c.in_ok-put_maybe.ensures ▹ c.in_ok-put_maybe-2.ensures)
    ▹ c.in_ok-put-4.ensures)
    ▹ in_body c.deref.ensures.value c.in_ok-put_body.ensures ▹ c.in_ok-put-5.ensures ▹ c.in_ok-put_expression.ensures ▹ c.put-6.ensures)

pub put_generators-returns : goal.put_generators-returns
put_generators-returns t c = by_name (generators_are c.args.gs.now) (record { on_ok = joined_whole spell_generator c.args.gs.now c.loop-g.g-index (search rules) c.loop-g.invariant })

pub put_generators-loop-g-preserved : goal.put_generators-loop-g-preserved
put_generators-loop-g-preserved t c = joined_turn spell_generator c.args.gs.now c.loop-g.g-index c.g-item.result c.g-item.is c.loop-g-test.true c.loop-g.invariant c.in_ok-put_generator.ensures.on_ok

pub put_statements-returns : goal.put_statements-returns
put_statements-returns t c = by_name (block_is c.args.ss.now) (record { on_ok = joined_whole spell_statement c.args.ss.now c.loop-s.s-index (search rules) c.loop-s.invariant })

pub put_statements-loop-s-preserved : goal.put_statements-loop-s-preserved
put_statements-loop-s-preserved t c = joined_turn spell_statement c.args.ss.now c.loop-s.s-index c.s-item.result c.s-item.is c.loop-s-test.true c.loop-s.invariant c.in_ok-put_statement.ensures.on_ok

pub put_list-returns : goal.put_list-returns
put_list-returns t c = by_name (list_is c.args.es.now) (record { on_ok = commas_whole element c.args.es.now c.loop-place.place (search rules) c.loop-place.invariant })

pub put_list-loop-place-preserved : goal.put_list-loop-place-preserved
put_list-loop-place-preserved t c = commas_turn_at element c.args.es.now c.loop-place.place c.index-es-place.result c.index-es-place.is c.loop-place-test.true c.loop-place.invariant c.in_ok-put_comma.ensures.on_ok c.in_ok-put_expression.ensures.on_ok

pub put_index-returns-in-Literal : goal.put_index-returns-in-Literal
put_index-returns-in-Literal t c =
    by_name (seen_index c.in-Literal.is (expr_literal c.in-Literal.es c.in-Literal.field-1) ∙ long_index_is c.in-Literal.es.items c.in-Literal.field-1 (search rules))
    (listed c.deref.ensures.value c.put_list.ensures)

pub put_index-returns-in_default : goal.put_index-returns-in_default
put_index-returns-in_default t c =
    elim c.in_default.branch [
      | put_index-in_default-via-in-Literal+else-len-gt1 w ↦ by_name (seen_index w.in-Literal.is (expr_literal w.in-Literal.es w.in-Literal.field-1) ∙ short_index_is w.in-Literal.es.items w.in-Literal.field-1 (search rules) ∙ sym (seen level.Expression w.in-Literal.is (expr_literal w.in-Literal.es w.in-Literal.field-1))) c.put_expression.ensures
      | put_index-in_default-via-in_default w ↦ by_name (other_index_is c.args.e.now w.in_default.not-Literal) c.put_expression.ensures
    ]

pub put_operation-returns-in_ok-put_default-in-Genarray : goal.put_operation-returns-in_ok-put_default-in-Genarray
put_operation-returns-in_ok-put_default-in-Genarray t c =
    by_name (seen_operation c.in-Genarray.is (operation_genarray c.in-Genarray.shape c.in-Genarray.default c.in-Genarray.site) ∙ genarray_is (expr c.in-Genarray.shape) (maybe c.in-Genarray.default) c.in-Genarray.site)
    (c.in_ok-put-in-Genarray.ensures ▹ c.in_ok-put-in-Genarray-2.ensures ▹ (c.in_ok-put_expression-in-Genarray.ensures ▹ c.in_ok-put_default-in-Genarray.ensures) ▹ c.put-in-Genarray-2.ensures)

pub put_operation-returns-in_ok-put_expression-in-Modarray : goal.put_operation-returns-in_ok-put_expression-in-Modarray
put_operation-returns-in_ok-put_expression-in-Modarray t c =
    by_name (seen_operation c.in-Modarray.is (operation_modarray c.in-Modarray.array c.in-Modarray.site))
    (c.in_ok-put-in-Modarray.ensures ▹ c.in_ok-put-in-Modarray-2.ensures ▹ c.in_ok-put_expression-in-Modarray.ensures ▹ c.put-in-Modarray-3.ensures)

pub put_operation-returns-in_ok-put_expression-in-Fold : goal.put_operation-returns-in_ok-put_expression-in-Fold
put_operation-returns-in_ok-put_expression-in-Fold t c =
    by_name (seen_operation c.in-Fold.is (operation_fold c.in-Fold.op c.in-Fold.neutral c.in-Fold.site))
    (c.in_ok-put-in-Fold.ensures ▹ c.in_ok-put-in-Fold-2.ensures ▹ (by_text c.operator_text.ensures c.in_ok-put-in-Fold-3.ensures ▹ c.in_ok-put-in-Fold-4.ensures ▹ c.in_ok-put_expression-in-Fold.ensures) ▹ c.put-in-Fold-5.ensures)

pub put_statement-returns-in_ok-put_expression-in-Assign : goal.put_statement-returns-in_ok-put_expression-in-Assign
put_statement-returns-in_ok-put_expression-in-Assign t c =
    by_name (seen_stmt c.in-Assign.is (stmt_assign c.in-Assign.targets c.in-Assign.value))
    (in_targets c.deref.ensures.value c.in_ok-put_targets-in-Assign.ensures ▹ c.in_ok-put-in-Assign.ensures ▹ c.in_ok-put_expression-in-Assign.ensures ▹ c.put-in-Assign.ensures)

pub put_statement-returns-in_ok-put_expression-in-Replace : goal.put_statement-returns-in_ok-put_expression-in-Replace
put_statement-returns-in_ok-put_expression-in-Replace t c =
    by_name (seen_stmt c.in-Replace.is (stmt_replace c.in-Replace.target c.in-Replace.bracket c.in-Replace.index c.in-Replace.value) ∙ replace_is c.in-Replace.target c.in-Replace.bracket (expr c.in-Replace.index) (expr c.in-Replace.value))
    (by_text c.as_str.ensures.bytes c.in_ok-put-in-Replace.ensures ▹ (c.in_ok-put-in-Replace-2.ensures ▹ c.in_ok-put_index-in-Replace.ensures ▹ c.in_ok-put-in-Replace-3.ensures) ▹ c.in_ok-put-in-Replace-4.ensures ▹ c.in_ok-put_expression-in-Replace.ensures ▹ c.put-in-Replace-5.ensures)

pub put_statement-returns-in_ok-put_block-in-If : goal.put_statement-returns-in_ok-put_block-in-If
put_statement-returns-in_ok-put_block-in-If t c =
    by_name (seen_stmt c.in-If.is (stmt_if c.in-If.cond c.in-If.yes c.in-If.no c.in-If.site))
    (c.in_ok-put-in-If.ensures ▹ c.in_ok-put_condition-in-If.ensures ▹ in_block c.deref-in-If.ensures.value c.in_ok-put_block-in-If.ensures ▹ in_else c.deref-in-If-2.ensures.value c.put_else.ensures)

pub put_statement-returns-in_ok-put_condition-in-While : goal.put_statement-returns-in_ok-put_condition-in-While
put_statement-returns-in_ok-put_condition-in-While t c =
    by_name (seen_stmt c.in-While.is (stmt_while c.in-While.cond c.in-While.body c.in-While.site))
    (c.in_ok-put-in-While.ensures ▹ c.in_ok-put_condition-in-While.ensures ▹ in_block c.deref-in-While.ensures.value c.put_block-in-While.ensures)

pub put_statement-returns-in_ok-put_condition-in-Do : goal.put_statement-returns-in_ok-put_condition-in-Do
put_statement-returns-in_ok-put_condition-in-Do t c =
    by_name (seen_stmt c.in-Do.is (stmt_do c.in-Do.body c.in-Do.cond c.in-Do.site c.in-Do.test))
    (c.in_ok-put-in-Do.ensures ▹ in_block c.deref-in-Do.ensures.value c.in_ok-put_block-in-Do.ensures ▹ c.in_ok-put-in-Do-2.ensures ▹ c.in_ok-put_condition-in-Do.ensures ▹ c.put-in-Do-3.ensures)

pub put_maybe-returns : goal.put_maybe-returns
put_maybe-returns t c = by_name (ap (λ (o : Option Expression). spell_maybe (maybe o) c.args.word.now) c.in-Some.is) (c.in_ok-put.ensures ▹ c.put_expression.ensures)

pub put_default-returns : goal.put_default-returns
put_default-returns t c = by_name (ap (λ (o : Option Expression). spell_default (maybe o)) c.in-Some.is) (c.in_ok-put.ensures ▹ c.put_expression.ensures)

pub put_bound-returns-in-Given : goal.put_bound-returns-in-Given
put_bound-returns-in-Given t c = by_name (ap (λ (b : Bound). spell_bound (bound b)) c.in-Given.is ∙ ap spell_bound (bound_given c.in-Given.e)) c.put_expression.ensures

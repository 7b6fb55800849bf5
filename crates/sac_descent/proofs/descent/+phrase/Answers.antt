use Rattle.std.proofs.Common.{[], ◌∷◌, ◌++◌, refl, sym, ap, ◌∙◌, subst, length, map, codes, max, inl, inr, arith}
use Rattle.std.proofs.lemmas.Result.{err_from_is_err_and}
use Rattle.sac_base.specs.declared.op.Op.TheVariants.{Add, Sub, Mul, Div, Rem, Min, Max, And, Or}
use Rattle.sac_ast.specs.Shape.{text, name}
use Rattle.sac_ast.specs.Grammar.{sign, generator}
use Rattle.sac_ast.specs.Heights.{height, stmt_height}
use Rattle.sac_ast.specs.View as View
use Rattle.sac_ast.specs.Tree as tree
use Rattle.sac_ast.specs.Tree.{Expr}
use Rattle.sac_phrases.specs.Heights.{IsAbove}
use Rattle.sac_grammar.proofs.Parsing.{read_ref, read_then, read_first, read_none, stops, stop_ref, stop_left, stop_right, stop_first, stop_second}
use Rattle.sac_grammar.specs.Parsing.{Halted}
use Rattle.sac_phrases.specs.Contract.{lexeme, lexemes_of, StopOf, unboxed}
use Rattle.sac_phrases.specs.declared.level.Level.{Level}
use Rattle.sac_phrases.specs.Levels.{IsOperandAt}
use Rattle.sac_phrases.proofs.Steps.{less_three, less_four, less_le, token_read, token_halts, starts_there, memory_halts, memory_halted, operator_halts, operator_found}
use Rattle.sac_descent.proofs.LevelSteps.{LevelSoFar, level_tall, level_begin, level_low, level_fail, level_memory, level_more, level_end, level_high}
use Rattle.sac_descent.proofs.ListSteps.{ListRead, PostRead, GensRead, StmtsRead, list_begin, list_next, list_whole, list_halts, post_begin, post_next, post_halts, post_end, post_high, select_tall, gens_begin, gens_next, gens_whole, gens_halts, stmts_begin, stmts_next, stmts_whole, stmts_halts}
use Rattle.sac_descent.proofs.PhraseSteps.{arguments_some, arguments_none, parens_read, pair_read, variable_read, call_read, builtin_read, reshape_read, extreme_read, array_read, parens_primary, with_read, prefix_postfix, prefix_high, inside, small_depth, room_depth, stop_inside, prefix_stop, prefix_read, plain_read, choice_stop, choice_read, primary_kept}
use Rattle.sac_grammar.proofs.Deeper.{deeper, call_deeper, builtin_deeper, reshape_deeper, extreme_deeper, literal_deeper, with_deeper}
use Rattle.sac_descent.proofs.DeepSteps.{stops_deep, low_weaker, node_nth, node_last, parens_same, primary_high, index_stop, level_deep, choice_high}
use Rattle.sac_grammar.proofs.Grows.{grows_statement}
use Rattle.sac_descent.proofs.DeepStatements.{statement_high, if_high, while_deeper, do_deeper, statement_nth, statement_last, for_high, for_halts, for_rest_halts, for_body_halts, for_low, cond_halts, parens_weaker}
use Rattle.sac_descent.proofs.Assignments.{replace_halts, replace_index, rest_several, rest_replace, rest_compound, rest_last, rest_high, assign_halts}
use Rattle.sac_descent.proofs.IndexLists.{memory_so, indices_first, indices_high, indices_next, indices_low}
use Rattle.sac_descent.proofs.LoopSteps.{generator_deeper, dot_read, given_read, maybe_none, maybe_some, genarray_read, modarray_read, fold_read, operation_nth, operation_last, gen_cell, generator_read}
use Rattle.sac_descent.proofs.StatementSteps.{block_read, body_some, none_read, else_some, else_block, else_if, assignment_read, conditional_read, while_read, do_read, for_read, statement_kept, if_read, else_stop, several_read, replace_read, compound_read, assign_kept}
use Rattle.sac_descent.proofs.descent.+phrase.Goals as goal

pub list-returns-in_err-first-clause-phrase : goal.list-returns-in_err-first-clause-phrase
list-returns-in_err-first-clause-phrase t c = let p = err_from_is_err_and c.from_residual.result c.from_residual.ensures.1 in rw (p.1, p.2) (stop_left (stop_ref c.in_err-first.ensures.phrase))

pub list-returns-in_err-push-clause-phrase : goal.list-returns-in_err-push-clause-phrase
list-returns-in_err-push-clause-phrase t c = let p = err_from_is_err_and c.from_residual-in_err-push.result c.from_residual-in_err-push.ensures.1 in rw p.1 (memory_halts _ p.2)

pub list-loop-comma-init : goal.list-loop-comma-init
list-loop-comma-init t c = record { shorter = c.in_ok-first.ensures.shorter; so_far = list_begin c.args.place (lexemes_of c.args.tokens.now) c.in_ok-first.first c.in_ok-first.rest _ (c.in_ok-push.ensures.items ∙ ap (λ l. l ++ (c.into_inner.result ∷ [])) c.new-found.ensures.items ∙ ap (λ e. e ∷ []) c.into_inner.ensures) c.in_ok-first.ensures.phrase }

pub list-returns-in_err-next-clause-phrase : goal.list-returns-in_err-next-clause-phrase
list-returns-in_err-next-clause-phrase t c = let p = err_from_is_err_and c.from_residual-in_err-next.result c.from_residual-in_err-next.ensures.1 in rw (p.1, p.2) (list_halts c.args.place _ _ _ _ _ _ c.loop-comma.invariant.so_far c.in-Some.ensures.token c.in_err-next.ensures.phrase)

pub list-returns-in_err-push-2-clause-phrase : goal.list-returns-in_err-push-2-clause-phrase
list-returns-in_err-push-2-clause-phrase t c = let p = err_from_is_err_and c.from_residual-in_err-push-2.result c.from_residual-in_err-push-2.ensures.1 in rw p.1 (memory_halts _ p.2)

pub list-loop-comma-preserved : goal.list-loop-comma-preserved
list-loop-comma-preserved t c = record { shorter = less_three _ _ _ _ c.in_ok-next.ensures.shorter c.in-Some.ensures.shorter c.loop-comma.invariant.shorter; so_far = subst (λ n. ListRead c.args.place (lexemes_of c.args.tokens.now) c.push-in-Some.new.self.items n (lexemes_of c.in_ok-next.after.now)) (sym c.max-height.ensures) (list_next c.args.place (lexemes_of c.args.tokens.now) c.loop-comma.found.items c.loop-comma.height _ _ _ c.in_ok-next.next c.in_ok-next.after _ c.loop-comma.invariant.so_far c.in-Some.ensures.token (c.in_ok-push-2.ensures.items ∙ ap (λ e. c.loop-comma.found.items ++ (e ∷ [])) c.into_inner-in-Some.ensures) c.in_ok-next.ensures.phrase) }

pub list-returns-clause-phrase : goal.list-returns-clause-phrase
list-returns-clause-phrase t c = list_whole c.args.place _ _ _ c.loop-comma.invariant.so_far c.in_default.ensures.token

pub indices-returns-in_err-first-clause-phrase : goal.indices-returns-in_err-first-clause-phrase
indices-returns-in_err-first-clause-phrase t c = let p = err_from_is_err_and c.from_residual.result c.from_residual.ensures.1 in rw (p.1, p.2) (indices_first c.args.place (lexemes_of c.args.tokens.now) c.in_err-first.field-0.0 c.in_err-first.ensures.phrase)

pub indices-returns-in_err-push-clause-phrase : goal.indices-returns-in_err-push-clause-phrase
indices-returns-in_err-push-clause-phrase t c = let p = err_from_is_err_and c.from_residual-in_err-push.result c.from_residual-in_err-push.ensures.1 in rw p.1 (memory_so _ p.2)

pub indices-loop-comma-init : goal.indices-loop-comma-init
indices-loop-comma-init t c = record { shorter = c.in_ok-first.ensures.shorter; so_far = list_begin c.args.place (lexemes_of c.args.tokens.now) c.in_ok-first.first c.in_ok-first.rest _ (c.in_ok-push.ensures.items ∙ ap (λ l. l ++ (c.into_inner.result ∷ [])) c.new-found.ensures.items ∙ ap (λ e. e ∷ []) c.into_inner.ensures) c.in_ok-first.ensures.phrase }

pub indices-returns-then-has_no_room-clause-phrase : goal.indices-returns-then-has_no_room-clause-phrase
indices-returns-then-has_no_room-clause-phrase t c = indices_high c.args.place (lexemes_of c.args.tokens.now) _ _ c.loop-comma.rest _ _ c.loop-comma.invariant.so_far c.in-Some.ensures.token (c.has_no_room.ensures.full c.if-has_no_room.true)

pub indices-returns-in_err-next-clause-phrase : goal.indices-returns-in_err-next-clause-phrase
indices-returns-in_err-next-clause-phrase t c = let p = err_from_is_err_and c.from_residual-in_err-next.result c.from_residual-in_err-next.ensures.1 in rw (p.1, p.2) (indices_next c.args.place c.inside.result (lexemes_of c.args.tokens.now) _ _ _ _ _ c.in_err-next.field-0.0 c.inside.ensures.checked (deeper c.args.place.depth c.inside.result.depth c.inside.ensures.depth) c.loop-comma.invariant.so_far c.in-Some.ensures.token c.in_err-next.ensures.phrase)

pub indices-returns-in_err-push-2-clause-phrase : goal.indices-returns-in_err-push-2-clause-phrase
indices-returns-in_err-push-2-clause-phrase t c = let p = err_from_is_err_and c.from_residual-in_err-push-2.result c.from_residual-in_err-push-2.ensures.1 in rw p.1 (memory_so _ p.2)

pub indices-loop-comma-preserved : goal.indices-loop-comma-preserved
indices-loop-comma-preserved t c = record { shorter = less_three _ _ _ _ c.in_ok-next.ensures.shorter c.in-Some.ensures.shorter c.loop-comma.invariant.shorter; so_far = subst (λ n. ListRead c.args.place (lexemes_of c.args.tokens.now) c.push-in-Some.new.self.items n (lexemes_of c.in_ok-next.after.now)) (sym c.max-height.ensures) (list_next c.args.place (lexemes_of c.args.tokens.now) c.loop-comma.found.items c.loop-comma.height _ _ _ c.in_ok-next.next c.in_ok-next.after _ c.loop-comma.invariant.so_far c.in-Some.ensures.token (c.in_ok-push-2.ensures.items ∙ ap (λ e. c.loop-comma.found.items ++ (e ∷ [])) c.into_inner-in-Some.ensures) (indices_low c.args.place c.inside.result (lexemes_of c.in-Some.behind.now) c.in_ok-next.next c.in_ok-next.after (inside c.args.place c.inside.result c.inside.ensures.checked c.inside.ensures.depth (λ k. room_depth c.args.place.depth c.loop-comma.height (c.has_no_room.ensures.room c.if-has_no_room.false k))) c.in_ok-next.ensures.phrase)) }

pub indices-returns-clause-phrase : goal.indices-returns-clause-phrase
indices-returns-clause-phrase t c = list_whole c.args.place _ _ _ c.loop-comma.invariant.so_far c.in_default.ensures.token

pub arguments-returns-then-starts_expression-clause-phrase : goal.arguments-returns-then-starts_expression-clause-phrase
arguments-returns-then-starts_expression-clause-phrase t c = arguments_some c.args.place _ c.list.result (sym c.starts_expression.ensures ∙ c.if-starts_expression.true) c.list.ensures.phrase

pub arguments-returns-clause-phrase : goal.arguments-returns-clause-phrase
arguments-returns-clause-phrase t c = arguments_none c.args.place _ _ (sym c.starts_expression.ensures ∙ c.if-starts_expression.false) c.new.ensures.items refl

pub parens-returns-in_err-_open-clause-phrase : goal.parens-returns-in_err-_open-clause-phrase
parens-returns-in_err-_open-clause-phrase t c = let p = err_from_is_err_and c.from_residual.result c.from_residual.ensures.1 in rw (p.1, p.2) (stop_left (token_halts (text (codes "(")) _ _ c.in_err-_open.ensures.token))

pub parens-returns-in_err-inner-clause-phrase : goal.parens-returns-in_err-inner-clause-phrase
parens-returns-in_err-inner-clause-phrase t c = let p = err_from_is_err_and c.from_residual-in_err-inner.result c.from_residual-in_err-inner.ensures.1 in rw (p.1, p.2) (stop_right (token_read c.in_ok-_open.ensures.token) (stop_left (stop_ref c.in_err-inner.ensures.phrase)))

pub parens-returns-in_err-_close-clause-phrase : goal.parens-returns-in_err-_close-clause-phrase
parens-returns-in_err-_close-clause-phrase t c = let p = err_from_is_err_and c.from_residual-in_err-_close.result c.from_residual-in_err-_close.ensures.1 in rw (p.1, p.2) (stop_right (token_read c.in_ok-_open.ensures.token) (stop_right (read_ref c.in_ok-inner.ensures.phrase.0) (token_halts (text (codes ")")) _ _ c.in_err-_close.ensures.token)))

pub parens-returns-clause-phrase : goal.parens-returns-clause-phrase
parens-returns-clause-phrase t c = parens_read c.args.place c.in_ok-inner.inner c.in_ok-_open.ensures.token c.in_ok-inner.ensures.phrase c.in_ok-_close.ensures.token

pub pair-returns-in_err-_open-clause-phrase : goal.pair-returns-in_err-_open-clause-phrase
pair-returns-in_err-_open-clause-phrase t c = let p = err_from_is_err_and c.from_residual.result c.from_residual.ensures.1 in rw (p.1, p.2) (stop_left (token_halts (text (codes "(")) _ _ c.in_err-_open.ensures.token))

pub pair-returns-in_err-first-clause-phrase : goal.pair-returns-in_err-first-clause-phrase
pair-returns-in_err-first-clause-phrase t c = let p = err_from_is_err_and c.from_residual-in_err-first.result c.from_residual-in_err-first.ensures.1 in rw (p.1, p.2) (stop_right (token_read c.in_ok-_open.ensures.token) (stop_left (stop_left (stop_ref c.in_err-first.ensures.phrase))))

pub pair-returns-in_err-_comma-clause-phrase : goal.pair-returns-in_err-_comma-clause-phrase
pair-returns-in_err-_comma-clause-phrase t c = let p = err_from_is_err_and c.from_residual-in_err-_comma.result c.from_residual-in_err-_comma.ensures.1 in rw (p.1, p.2) (stop_right (token_read c.in_ok-_open.ensures.token) (stop_left (stop_right (read_ref c.in_ok-first.ensures.phrase.0) (stop_left (token_halts (text (codes ",")) _ _ c.in_err-_comma.ensures.token)))))

pub pair-returns-in_err-second-clause-phrase : goal.pair-returns-in_err-second-clause-phrase
pair-returns-in_err-second-clause-phrase t c = let p = err_from_is_err_and c.from_residual-in_err-second.result c.from_residual-in_err-second.ensures.1 in rw (p.1, p.2) (stop_right (token_read c.in_ok-_open.ensures.token) (stop_left (stop_right (read_ref c.in_ok-first.ensures.phrase.0) (stop_right (token_read c.in_ok-_comma.ensures.token) (stop_ref c.in_err-second.ensures.phrase)))))

pub pair-returns-in_err-_close-clause-phrase : goal.pair-returns-in_err-_close-clause-phrase
pair-returns-in_err-_close-clause-phrase t c = let p = err_from_is_err_and c.from_residual-in_err-_close.result c.from_residual-in_err-_close.ensures.1 in rw (p.1, p.2) (stop_right (token_read c.in_ok-_open.ensures.token) (stop_right (read_then (read_ref c.in_ok-first.ensures.phrase.0) (read_then (token_read c.in_ok-_comma.ensures.token) (read_ref c.in_ok-second.ensures.phrase.0))) (token_halts (text (codes ")")) _ _ c.in_err-_close.ensures.token)))

pub pair-returns-clause-phrase : goal.pair-returns-clause-phrase
pair-returns-clause-phrase t c = pair_read c.args.place c.in_ok-first.first c.in_ok-second.second c.in_ok-_open.ensures.token c.in_ok-first.ensures.phrase c.in_ok-_comma.ensures.token c.in_ok-second.ensures.phrase c.in_ok-_close.ensures.token

pub name_or_call-returns-in_err-token-clause-phrase : goal.name_or_call-returns-in_err-token-clause-phrase
name_or_call-returns-in_err-token-clause-phrase t c = let p = err_from_is_err_and c.from_residual.result c.from_residual.ensures.1 in rw (p.1, p.2) (stop_left (token_halts name _ _ c.in_err-token.ensures.token))

pub name_or_call-returns-in_err-target-clause-phrase : goal.name_or_call-returns-in_err-target-clause-phrase
name_or_call-returns-in_err-target-clause-phrase t c = let p = err_from_is_err_and c.from_residual-in_err-target.result c.from_residual-in_err-target.ensures.1 in rw (p.1, p.2) (memory_halts c.in_err-target.field-0.0 c.in_err-target.ensures.memory)

pub name_or_call-returns-in_err-variable-clause-phrase : goal.name_or_call-returns-in_err-variable-clause-phrase
name_or_call-returns-in_err-variable-clause-phrase t c = let p = err_from_is_err_and c.from_residual-in_err-variable.result c.from_residual-in_err-variable.ensures.1 in rw (p.1, p.2) (memory_halts c.in_err-variable.field-0.0 c.in_err-variable.ensures.memory)

pub name_or_call-returns-in_default-clause-phrase : goal.name_or_call-returns-in_default-clause-phrase
name_or_call-returns-in_default-clause-phrase t c = variable_read c.args.place _ c.in_ok-target.target c.in_ok-token.ensures.token c.in_default.ensures.token c.in_ok-target.ensures.target c.in_ok-variable.ensures.tree c.in_ok-variable.ensures.height

pub name_or_call-returns-in_err-list-clause-phrase : goal.name_or_call-returns-in_err-list-clause-phrase
name_or_call-returns-in_err-list-clause-phrase t c = let p = err_from_is_err_and c.from_residual-in_err-list.result c.from_residual-in_err-list.ensures.1 in rw (p.1, p.2) (stop_right (token_read c.in_ok-token.ensures.token) (stop_first (starts_there (text (codes "(")) c.in-Some.ensures.token) (stop_right (token_read c.in-Some.ensures.token) (stop_left c.in_err-list.ensures.phrase))))

pub name_or_call-returns-in_err-_close-clause-phrase : goal.name_or_call-returns-in_err-_close-clause-phrase
name_or_call-returns-in_err-_close-clause-phrase t c = let p = err_from_is_err_and c.from_residual-in_err-_close.result c.from_residual-in_err-_close.ensures.1 in rw (p.1, p.2) (stop_right (token_read c.in_ok-token.ensures.token) (stop_first (starts_there (text (codes "(")) c.in-Some.ensures.token) (stop_right (token_read c.in-Some.ensures.token) (stop_right c.in_ok-list.ensures.phrase.1 (token_halts (text (codes ")")) _ _ c.in_err-_close.ensures.token)))))

pub name_or_call-returns-in_err-call-clause-phrase : goal.name_or_call-returns-in_err-call-clause-phrase
name_or_call-returns-in_err-call-clause-phrase t c = let p = err_from_is_err_and c.from_residual-in_err-call.result c.from_residual-in_err-call.ensures.1 in rw (p.1, p.2) (memory_halts c.in_err-call.field-0.0 c.in_err-call.ensures.memory)

pub name_or_call-returns-clause-phrase : goal.name_or_call-returns-clause-phrase
name_or_call-returns-clause-phrase t c = call_read c.args.place _ c.in_ok-target.target c.in_ok-list.list c.in_ok-list.ensures.phrase.0 c.in_ok-token.ensures.token c.in-Some.ensures.token c.in_ok-list.ensures.phrase.1 c.in_ok-list.ensures.phrase.2 c.in_ok-_close.ensures.token c.in_ok-target.ensures.target c.in_ok-call.ensures.tree c.in_ok-call.ensures.height

pub builtin-returns-in_err-builtin-clause-phrase : goal.builtin-returns-in_err-builtin-clause-phrase
builtin-returns-in_err-builtin-clause-phrase t c = let p = err_from_is_err_and c.from_residual.result c.from_residual.ensures.1 in rw (p.1, p.2) (stop_left (c.in_err-builtin.ensures.phrase _ _))

pub builtin-returns-in_err-inner-clause-phrase : goal.builtin-returns-in_err-inner-clause-phrase
builtin-returns-in_err-inner-clause-phrase t c = let p = err_from_is_err_and c.from_residual-in_err-inner.result c.from_residual-in_err-inner.ensures.1 in rw (p.1, p.2) (stop_right c.in_ok-builtin.ensures.phrase.1 c.in_err-inner.ensures.phrase)

pub builtin-returns-in_err-builtin-2-clause-phrase : goal.builtin-returns-in_err-builtin-2-clause-phrase
builtin-returns-in_err-builtin-2-clause-phrase t c = let p = err_from_is_err_and c.from_residual-in_err-builtin-2.result c.from_residual-in_err-builtin-2.ensures.1 in rw (p.1, p.2) (memory_halts c.in_err-builtin-2.field-0.0 c.in_err-builtin-2.ensures.memory)

pub builtin-returns-clause-phrase : goal.builtin-returns-clause-phrase
builtin-returns-clause-phrase t c = builtin_read c.args.place _ _ c.in_ok-inner.inner _ _ c.in_ok-builtin.ensures.phrase.1 c.in_ok-builtin.ensures.phrase.2 c.in_ok-inner.ensures.phrase.1 c.in_ok-inner.ensures.phrase.2 c.in_ok-builtin-2.ensures.tree c.in_ok-builtin-2.ensures.height

pub reshape-returns-in_err-word-clause-phrase : goal.reshape-returns-in_err-word-clause-phrase
reshape-returns-in_err-word-clause-phrase t c = let p = err_from_is_err_and c.from_residual.result c.from_residual.ensures.1 in rw (p.1, p.2) (stop_left (token_halts (text (codes "reshape")) _ _ c.in_err-word.ensures.token))

pub reshape-returns-in_err-shape-clause-phrase : goal.reshape-returns-in_err-shape-clause-phrase
reshape-returns-in_err-shape-clause-phrase t c = let p = err_from_is_err_and c.from_residual-in_err-shape.result c.from_residual-in_err-shape.ensures.1 in rw (p.1, p.2) (stop_right (token_read c.in_ok-word.ensures.token) c.in_err-shape.ensures.phrase)

pub reshape-returns-in_err-reshape-clause-phrase : goal.reshape-returns-in_err-reshape-clause-phrase
reshape-returns-in_err-reshape-clause-phrase t c = let p = err_from_is_err_and c.from_residual-in_err-reshape.result c.from_residual-in_err-reshape.ensures.1 in rw (p.1, p.2) (memory_halts c.in_err-reshape.field-0.0 c.in_err-reshape.ensures.memory)

pub reshape-returns-clause-phrase : goal.reshape-returns-clause-phrase
reshape-returns-clause-phrase t c = reshape_read c.args.place _ c.in_ok-shape.shape c.in_ok-shape.array _ c.in_ok-word.ensures.token c.in_ok-shape.ensures.phrase.1 c.in_ok-shape.ensures.phrase.2 c.in_ok-reshape.ensures.tree c.in_ok-reshape.ensures.height

pub extreme-returns-in_default-clause-phrase : goal.extreme-returns-in_default-clause-phrase
extreme-returns-in_default-clause-phrase t c = stop_left (operator_halts (codes "min", Min) ((codes "max", Max) ∷ []) (lexemes_of c.args.tokens.now) c.args.tokens refl c.in_default.ensures.token)

pub extreme-returns-in_err-left-clause-phrase : goal.extreme-returns-in_err-left-clause-phrase
extreme-returns-in_err-left-clause-phrase t c = let p = err_from_is_err_and c.from_residual.result c.from_residual.ensures.1 in rw (p.1, p.2) (stop_right (operator_found (codes "min", Min) ((codes "max", Max) ∷ []) c.in-Some.ensures.token.0 c.in-Some.ensures.token.1.1).reads c.in_err-left.ensures.phrase)

pub extreme-returns-in_err-binary-clause-phrase : goal.extreme-returns-in_err-binary-clause-phrase
extreme-returns-in_err-binary-clause-phrase t c = let p = err_from_is_err_and c.from_residual-in_err-binary.result c.from_residual-in_err-binary.ensures.1 in rw (p.1, p.2) (memory_halts c.in_err-binary.field-0.0 c.in_err-binary.ensures.memory)

pub extreme-returns-clause-phrase : goal.extreme-returns-clause-phrase
extreme-returns-clause-phrase t c = extreme_read c.args.place _ c.in_ok-left.left c.in_ok-left.right c.in-Some.op c.in-Some.site c.in-Some.ensures.token.1.0 _ c.in-Some.ensures.token.0 c.in-Some.ensures.token.1.1 c.in_ok-left.ensures.phrase.1 c.in_ok-left.ensures.phrase.2 c.in_ok-binary.ensures.tree c.in_ok-binary.ensures.height

pub array-returns-in_err-open-clause-phrase : goal.array-returns-in_err-open-clause-phrase
array-returns-in_err-open-clause-phrase t c = let p = err_from_is_err_and c.from_residual.result c.from_residual.ensures.1 in rw (p.1, p.2) (stop_left (token_halts (text (codes "[")) _ _ c.in_err-open.ensures.token))

pub array-returns-in_err-list-clause-phrase : goal.array-returns-in_err-list-clause-phrase
array-returns-in_err-list-clause-phrase t c = let p = err_from_is_err_and c.from_residual-in_err-list.result c.from_residual-in_err-list.ensures.1 in rw (p.1, p.2) (stop_right (token_read c.in_ok-open.ensures.token) (stop_left c.in_err-list.ensures.phrase))

pub array-returns-in_err-_close-clause-phrase : goal.array-returns-in_err-_close-clause-phrase
array-returns-in_err-_close-clause-phrase t c = let p = err_from_is_err_and c.from_residual-in_err-_close.result c.from_residual-in_err-_close.ensures.1 in rw (p.1, p.2) (stop_right (token_read c.in_ok-open.ensures.token) (stop_right c.in_ok-list.ensures.phrase.1 (token_halts (text (codes "]")) _ _ c.in_err-_close.ensures.token)))

pub array-returns-in_err-literal-clause-phrase : goal.array-returns-in_err-literal-clause-phrase
array-returns-in_err-literal-clause-phrase t c = let p = err_from_is_err_and c.from_residual-in_err-literal.result c.from_residual-in_err-literal.ensures.1 in rw (p.1, p.2) (memory_halts c.in_err-literal.field-0.0 c.in_err-literal.ensures.memory)

pub array-returns-clause-phrase : goal.array-returns-clause-phrase
array-returns-clause-phrase t c = array_read c.args.place _ c.in_ok-list.list _ c.in_ok-open.ensures.token c.in_ok-list.ensures.phrase.1 c.in_ok-list.ensures.phrase.2 c.in_ok-_close.ensures.token c.in_ok-literal.ensures.tree c.in_ok-literal.ensures.height

pub with_loop-returns-in_err-word-clause-phrase : goal.with_loop-returns-in_err-word-clause-phrase
with_loop-returns-in_err-word-clause-phrase t c = let p = err_from_is_err_and c.from_residual.result c.from_residual.ensures.1 in rw (p.1, p.2) (stop_left (token_halts (text (codes "with")) _ _ c.in_err-word.ensures.token))

pub with_loop-returns-in_err-_open-clause-phrase : goal.with_loop-returns-in_err-_open-clause-phrase
with_loop-returns-in_err-_open-clause-phrase t c = let p = err_from_is_err_and c.from_residual-in_err-_open.result c.from_residual-in_err-_open.ensures.1 in rw (p.1, p.2) (stop_right (token_read c.in_ok-word.ensures.token) (stop_left (token_halts (text (codes "{")) _ _ c.in_err-_open.ensures.token)))

pub with_loop-returns-in_err-generators-clause-phrase : goal.with_loop-returns-in_err-generators-clause-phrase
with_loop-returns-in_err-generators-clause-phrase t c = let p = err_from_is_err_and c.from_residual-in_err-generators.result c.from_residual-in_err-generators.ensures.1 in rw (p.1, p.2) (stop_right (token_read c.in_ok-word.ensures.token) (stop_right (token_read c.in_ok-_open.ensures.token) (stop_left c.in_err-generators.ensures.phrase)))

pub with_loop-returns-in_err-_close-clause-phrase : goal.with_loop-returns-in_err-_close-clause-phrase
with_loop-returns-in_err-_close-clause-phrase t c = let p = err_from_is_err_and c.from_residual-in_err-_close.result c.from_residual-in_err-_close.ensures.1 in rw (p.1, p.2) (stop_right (token_read c.in_ok-word.ensures.token) (stop_right (token_read c.in_ok-_open.ensures.token) (stop_right c.in_ok-generators.ensures.phrase.1 (stop_left (token_halts (text (codes "}")) _ _ c.in_err-_close.ensures.token)))))

pub with_loop-returns-in_err-_colon-clause-phrase : goal.with_loop-returns-in_err-_colon-clause-phrase
with_loop-returns-in_err-_colon-clause-phrase t c = let p = err_from_is_err_and c.from_residual-in_err-_colon.result c.from_residual-in_err-_colon.ensures.1 in rw (p.1, p.2) (stop_right (token_read c.in_ok-word.ensures.token) (stop_right (token_read c.in_ok-_open.ensures.token) (stop_right c.in_ok-generators.ensures.phrase.1 (stop_right (token_read c.in_ok-_close.ensures.token) (stop_left (token_halts (text (codes ":")) _ _ c.in_err-_colon.ensures.token))))))

pub with_loop-returns-in_err-operation-clause-phrase : goal.with_loop-returns-in_err-operation-clause-phrase
with_loop-returns-in_err-operation-clause-phrase t c = let p = err_from_is_err_and c.from_residual-in_err-operation.result c.from_residual-in_err-operation.ensures.1 in rw (p.1, p.2) (stop_right (token_read c.in_ok-word.ensures.token) (stop_right (token_read c.in_ok-_open.ensures.token) (stop_right c.in_ok-generators.ensures.phrase.1 (stop_right (token_read c.in_ok-_close.ensures.token) (stop_right (token_read c.in_ok-_colon.ensures.token) (stop_ref c.in_err-operation.ensures.phrase))))))

pub with_loop-returns-in_err-with_loop-clause-phrase : goal.with_loop-returns-in_err-with_loop-clause-phrase
with_loop-returns-in_err-with_loop-clause-phrase t c = let p = err_from_is_err_and c.from_residual-in_err-with_loop.result c.from_residual-in_err-with_loop.ensures.1 in rw (p.1, p.2) (memory_halts c.in_err-with_loop.field-0.0 c.in_err-with_loop.ensures.memory)

pub with_loop-returns-clause-phrase : goal.with_loop-returns-clause-phrase
with_loop-returns-clause-phrase t c = with_read c.args.place _ c.in_ok-generators.generators c.in_ok-operation.operation _ c.in_ok-word.ensures.token c.in_ok-_open.ensures.token c.in_ok-generators.ensures.phrase.1 c.in_ok-generators.ensures.phrase.2 c.in_ok-_close.ensures.token _ c.in_ok-_colon.ensures.token c.in_ok-operation.ensures.phrase c.in_ok-with_loop.ensures.tree c.in_ok-with_loop.ensures.height

pub alternative-returns-then-starts_number-clause-phrase : goal.alternative-returns-then-starts_number-clause-phrase
alternative-returns-then-starts_number-clause-phrase t c = node_nth c.args.place c.args.place 0 (lexemes_of c.args.tokens.now) c.number.result refl (sym c.starts_number.ensures ∙ c.if-starts_number.true) refl (λ v h. absurd h) c.number.ensures.phrase

pub alternative-returns-then-starts_with-clause-phrase : goal.alternative-returns-then-starts_with-clause-phrase
alternative-returns-then-starts_with-clause-phrase t c = node_nth c.args.place c.args.place 1 (lexemes_of c.args.tokens.now) c.truth_true.result refl (sym c.starts_with.ensures ∙ c.if-starts_with.true) refl (λ v h. absurd h) c.truth_true.ensures.phrase

pub alternative-returns-then-starts_with-2-clause-phrase : goal.alternative-returns-then-starts_with-2-clause-phrase
alternative-returns-then-starts_with-2-clause-phrase t c = node_nth c.args.place c.args.place 2 (lexemes_of c.args.tokens.now) c.truth_false.result refl (sym c.starts_with-else-starts_with.ensures ∙ c.if-starts_with-2.true) refl (λ v h. absurd h) c.truth_false.ensures.phrase

pub alternative-returns-then-starts_name-clause-phrase : goal.alternative-returns-then-starts_name-clause-phrase
alternative-returns-then-starts_name-clause-phrase t c = node_nth c.args.place c.inside-inner.result 3 (lexemes_of c.args.tokens.now) c.name_or_call.result refl (sym c.starts_name.ensures ∙ c.if-starts_name.true) c.inside-inner.ensures.checked (call_deeper c.args.place.depth c.inside-inner.result.depth (deeper c.args.place.depth c.inside-inner.result.depth c.inside-inner.ensures.depth)) c.name_or_call.ensures.phrase

pub alternative-returns-then-starts_with_any-clause-phrase : goal.alternative-returns-then-starts_with_any-clause-phrase
alternative-returns-then-starts_with_any-clause-phrase t c = node_nth c.args.place c.inside-inner.result 4 (lexemes_of c.args.tokens.now) c.builtin.result refl (sym c.starts_with_any.ensures ∙ c.if-starts_with_any.true) c.inside-inner.ensures.checked (builtin_deeper c.args.place.depth c.inside-inner.result.depth (deeper c.args.place.depth c.inside-inner.result.depth c.inside-inner.ensures.depth)) c.builtin.ensures.phrase

pub alternative-returns-then-starts_with-3-clause-phrase : goal.alternative-returns-then-starts_with-3-clause-phrase
alternative-returns-then-starts_with-3-clause-phrase t c = node_nth c.args.place c.inside-inner.result 5 (lexemes_of c.args.tokens.now) c.reshape.result refl (sym c.starts_with-else-starts_with_any.ensures ∙ c.if-starts_with-3.true) c.inside-inner.ensures.checked (reshape_deeper c.args.place.depth c.inside-inner.result.depth (deeper c.args.place.depth c.inside-inner.result.depth c.inside-inner.ensures.depth)) c.reshape.ensures.phrase

pub alternative-returns-then-starts_with_any-2-clause-phrase : goal.alternative-returns-then-starts_with_any-2-clause-phrase
alternative-returns-then-starts_with_any-2-clause-phrase t c = node_nth c.args.place c.inside-inner.result 6 (lexemes_of c.args.tokens.now) c.extreme.result refl (sym c.starts_with_any-else-starts_with-3.ensures ∙ c.if-starts_with_any-2.true) c.inside-inner.ensures.checked (extreme_deeper c.args.place.depth c.inside-inner.result.depth (deeper c.args.place.depth c.inside-inner.result.depth c.inside-inner.ensures.depth)) c.extreme.ensures.phrase

pub alternative-returns-then-starts_with-4-clause-phrase : goal.alternative-returns-then-starts_with-4-clause-phrase
alternative-returns-then-starts_with-4-clause-phrase t c = node_nth c.args.place c.args.place 7 (lexemes_of c.args.tokens.now) c.parens.result refl (sym c.starts_with-else-starts_with_any-2.ensures ∙ c.if-starts_with-4.true) refl (parens_same c.args.place.depth) (parens_primary c.args.place (lexemes_of c.args.tokens.now) c.parens.result c.parens.ensures.phrase)

pub alternative-returns-then-starts_with-5-clause-phrase : goal.alternative-returns-then-starts_with-5-clause-phrase
alternative-returns-then-starts_with-5-clause-phrase t c = node_nth c.args.place c.inside-inner.result 8 (lexemes_of c.args.tokens.now) c.array.result refl (sym c.starts_with-else-starts_with-4.ensures ∙ c.if-starts_with-5.true) c.inside-inner.ensures.checked (literal_deeper c.args.place.depth c.inside-inner.result.depth (deeper c.args.place.depth c.inside-inner.result.depth c.inside-inner.ensures.depth)) c.array.ensures.phrase

pub alternative-returns-else-starts_with-5-clause-phrase : goal.alternative-returns-else-starts_with-5-clause-phrase
alternative-returns-else-starts_with-5-clause-phrase t c = node_last c.args.place c.inside-inner.result (lexemes_of c.args.tokens.now) c.with_loop.result ((sym c.starts_number.ensures ∙ c.if-starts_number.false), ((sym c.starts_with.ensures ∙ c.if-starts_with.false), ((sym c.starts_with-else-starts_with.ensures ∙ c.if-starts_with-2.false), ((sym c.starts_name.ensures ∙ c.if-starts_name.false), ((sym c.starts_with_any.ensures ∙ c.if-starts_with_any.false), ((sym c.starts_with-else-starts_with_any.ensures ∙ c.if-starts_with-3.false), ((sym c.starts_with_any-else-starts_with-3.ensures ∙ c.if-starts_with_any-2.false), ((sym c.starts_with-else-starts_with_any-2.ensures ∙ c.if-starts_with-4.false), ((sym c.starts_with-else-starts_with-4.ensures ∙ c.if-starts_with-5.false), tt))))))))) c.inside-inner.ensures.checked (with_deeper c.args.place.depth c.inside-inner.result.depth (deeper c.args.place.depth c.inside-inner.result.depth c.inside-inner.ensures.depth)) c.with_loop.ensures.phrase

pub primary-returns-in_err-node-clause-phrase : goal.primary-returns-in_err-node-clause-phrase
primary-returns-in_err-node-clause-phrase t c = let p = err_from_is_err_and c.from_residual.result c.from_residual.ensures.1 in rw (p.1, p.2) c.in_err-node.ensures.phrase

pub primary-returns-then-has_no_room-clause-phrase : goal.primary-returns-then-has_no_room-clause-phrase
primary-returns-then-has_no_room-clause-phrase t c = primary_high c.args.place c.args.tokens c.least_parts.result c.least_parts.ensures (c.has_no_room.ensures.full c.if-has_no_room.true)

pub primary-returns-clause-phrase : goal.primary-returns-clause-phrase
primary-returns-clause-phrase t c = primary_kept c.args.place (lexemes_of c.args.tokens.now) c.in_ok-node.node c.in_ok-node.rest.now _ c.kept.result c.in_ok-node.ensures.phrase.1 c.in_ok-node.ensures.phrase.2 c.kept.ensures

pub postfix-returns-in_err-array-clause-phrase : goal.postfix-returns-in_err-array-clause-phrase
postfix-returns-in_err-array-clause-phrase t c = let p = err_from_is_err_and c.from_residual.result c.from_residual.ensures.1 in rw (p.1, p.2) (stops (stop_left (stop_ref c.in_err-array.ensures.phrase)))

pub postfix-loop-open-init : goal.postfix-loop-open-init
postfix-loop-open-init t c = record { shorter = c.in_ok-array.ensures.shorter; so_far = post_begin (lexemes_of c.args.tokens.now) (unboxed c.in_ok-array.array.tree) _ c.in_ok-array.ensures.phrase.0; tall = λ k. (c.in_ok-array.ensures.phrase.1 k).0 }

pub postfix-returns-then-has_no_room-clause-phrase : goal.postfix-returns-then-has_no_room-clause-phrase
postfix-returns-then-has_no_room-clause-phrase t c = post_high c.args.place (lexemes_of c.args.tokens.now) c.loop-open.array c.loop-open.rest _ _ c.loop-open.invariant.so_far c.in-Some.ensures.token c.loop-open.invariant.tall (c.has_no_room.ensures.full c.if-has_no_room.true)

pub postfix-returns-in_err-index-clause-phrase : goal.postfix-returns-in_err-index-clause-phrase
postfix-returns-in_err-index-clause-phrase t c = let p = err_from_is_err_and c.from_residual-in_err-index.result c.from_residual-in_err-index.ensures.1 in rw (p.1, p.2) (index_stop c.args.place c.inside.result (lexemes_of c.args.tokens.now) _ _ _ _ c.in_err-index.field-0.0 c.inside.ensures.checked (deeper c.args.place.depth c.inside.result.depth c.inside.ensures.depth) c.loop-open.invariant.so_far c.in-Some.ensures.token c.in_err-index.ensures.phrase)

pub postfix-returns-in_err-_close-clause-phrase : goal.postfix-returns-in_err-_close-clause-phrase
postfix-returns-in_err-_close-clause-phrase t c = let p = err_from_is_err_and c.from_residual-in_err-_close.result c.from_residual-in_err-_close.ensures.1 in rw (p.1, p.2) (stops (post_halts _ _ _ _ _ c.loop-open.invariant.so_far c.in-Some.ensures.token (stop_right c.in_ok-index.ensures.phrase.1 (token_halts (text (codes "]")) _ _ c.in_err-_close.ensures.token))))

pub postfix-returns-in_err-index-2-clause-phrase : goal.postfix-returns-in_err-index-2-clause-phrase
postfix-returns-in_err-index-2-clause-phrase t c = let p = err_from_is_err_and c.from_residual-in_err-index-2.result c.from_residual-in_err-index-2.ensures.1 in rw (p.1, p.2) (memory_halted c.in_err-index-2.field-0.0 c.in_err-index-2.ensures.memory)

pub postfix-returns-in_err-array-2-clause-phrase : goal.postfix-returns-in_err-array-2-clause-phrase
postfix-returns-in_err-array-2-clause-phrase t c = let p = err_from_is_err_and c.from_residual-in_err-array-2.result c.from_residual-in_err-array-2.ensures.1 in rw (p.1, p.2) (memory_halted c.in_err-array-2.field-0.0 c.in_err-array-2.ensures.memory)

pub postfix-loop-open-preserved : goal.postfix-loop-open-preserved
postfix-loop-open-preserved t c = let trees = c.in_ok-array-2.ensures.tree ∙ ap (λ i. tree.select (unboxed c.loop-open.array.tree) i c.in-Some.open.site) c.in_ok-index-2.ensures.tree in record { shorter = less_four _ _ _ _ _ c.in_ok-_close.ensures.shorter c.in_ok-index.ensures.shorter c.in-Some.ensures.shorter c.loop-open.invariant.shorter; so_far = subst (λ (e : Expr). PostRead (lexemes_of c.args.tokens.now) e (lexemes_of c.in_ok-_close.after.now)) (sym trees) (post_next (lexemes_of c.args.tokens.now) (unboxed c.loop-open.array.tree) _ (lexeme c.in-Some.open) _ _ _ _ (map View.expr c.in_ok-index.index.tree.items) _ c.loop-open.invariant.so_far c.in-Some.ensures.token c.in_ok-index.ensures.phrase.1 c.in_ok-index.ensures.phrase.2.trees c.in_ok-_close.ensures.token); tall = λ k. select_tall c.args.place c.in-Some.open.site c.loop-open.array c.in_ok-array-2.array c.in_ok-index.index.tree.items _ c.in_ok-index.index.height c.in_ok-index-2.index.height (unboxed c.in_ok-index-2.index.tree) _ (c.has_no_room.ensures.room c.if-has_no_room.false k) (c.loop-open.invariant.tall k) c.in_ok-index.ensures.phrase.2.trees (low_weaker c.args.place c.inside.result c.in_ok-index.index.height _ (inside c.args.place c.inside.result c.inside.ensures.checked c.inside.ensures.depth (λ k. room_depth c.args.place.depth c.loop-open.array.height (c.has_no_room.ensures.room c.if-has_no_room.false k))) c.in_ok-index.ensures.phrase.2.low k) c.in_ok-index-2.ensures.one c.in_ok-index-2.ensures.several c.in_ok-array-2.ensures.height c.in_ok-index-2.ensures.tree c.in_ok-array-2.ensures.tree }

pub postfix-returns-clause-phrase : goal.postfix-returns-clause-phrase
postfix-returns-clause-phrase t c = post_end c.args.place (lexemes_of c.args.tokens.now) _ _ c.kept.result c.loop-open.invariant.so_far c.in_default.ensures.token c.loop-open.invariant.tall c.kept.ensures

pub prefix-returns-in_default-clause-phrase : goal.prefix-returns-in_default-clause-phrase
prefix-returns-in_default-clause-phrase t c = prefix_postfix c.args.place (lexemes_of c.args.tokens.now) c.postfix.result c.in_default.ensures.token c.postfix.ensures.phrase

pub prefix-returns-then-has_no_room-clause-phrase : goal.prefix-returns-then-has_no_room-clause-phrase
prefix-returns-then-has_no_room-clause-phrase t c = prefix_high c.args.place c.args.tokens c.in-Some.op c.in-Some.site c.in-Some.behind c.in-Some.ensures.token (c.has_no_room.ensures.full c.if-has_no_room.true)

pub prefix-returns-in_err-inner-clause-phrase : goal.prefix-returns-in_err-inner-clause-phrase
prefix-returns-in_err-inner-clause-phrase t c = let p = err_from_is_err_and c.from_residual.result c.from_residual.ensures.1 in rw (p.1, p.2) (prefix_stop c.args.place c.inside.result (lexemes_of c.args.tokens.now) c.in-Some.op c.in-Some.site c.in-Some.behind c.in_err-inner.field-0.0 c.in-Some.ensures.token (inside c.args.place c.inside.result c.inside.ensures.checked c.inside.ensures.depth (λ k. room_depth c.args.place.depth 1 (c.has_no_room.ensures.room c.if-has_no_room.false k))) c.in_err-inner.ensures.phrase)

pub prefix-returns-in_err-unary-clause-phrase : goal.prefix-returns-in_err-unary-clause-phrase
prefix-returns-in_err-unary-clause-phrase t c = let p = err_from_is_err_and c.from_residual-in_err-unary.result c.from_residual-in_err-unary.ensures.1 in rw (p.1, p.2) (memory_halted c.in_err-unary.field-0.0 c.in_err-unary.ensures.memory)

pub prefix-returns-clause-phrase : goal.prefix-returns-clause-phrase
prefix-returns-clause-phrase t c = prefix_read c.args.place c.inside.result (lexemes_of c.args.tokens.now) c.in-Some.op c.in-Some.site c.in-Some.behind c.in_ok-inner.inner c.in_ok-unary.field-0 _ c.in-Some.ensures.token (inside c.args.place c.inside.result c.inside.ensures.checked c.inside.ensures.depth (λ k. room_depth c.args.place.depth 1 (c.has_no_room.ensures.room c.if-has_no_room.false k))) c.in_ok-inner.ensures.phrase c.in_ok-unary.ensures.tree c.in_ok-unary.ensures.height

pub operand-returns-in-Disjunction-clause-phrase : goal.operand-returns-in-Disjunction-clause-phrase
operand-returns-in-Disjunction-clause-phrase t c = subst (λ (l : Level). IsOperandAt l c.args.place (lexemes_of c.args.tokens.now) c.chain.result) (sym c.in-Disjunction.is) c.chain.ensures.phrase

pub operand-returns-in-Conjunction-clause-phrase : goal.operand-returns-in-Conjunction-clause-phrase
operand-returns-in-Conjunction-clause-phrase t c = subst (λ (l : Level). IsOperandAt l c.args.place (lexemes_of c.args.tokens.now) c.chain-in-Conjunction.result) (sym c.in-Conjunction.is) c.chain-in-Conjunction.ensures.phrase

pub operand-returns-in-Equality-clause-phrase : goal.operand-returns-in-Equality-clause-phrase
operand-returns-in-Equality-clause-phrase t c = subst (λ (l : Level). IsOperandAt l c.args.place (lexemes_of c.args.tokens.now) c.chain-in-Equality.result) (sym c.in-Equality.is) c.chain-in-Equality.ensures.phrase

pub operand-returns-in-Comparison-clause-phrase : goal.operand-returns-in-Comparison-clause-phrase
operand-returns-in-Comparison-clause-phrase t c = subst (λ (l : Level). IsOperandAt l c.args.place (lexemes_of c.args.tokens.now) c.chain-in-Comparison.result) (sym c.in-Comparison.is) c.chain-in-Comparison.ensures.phrase

pub operand-returns-in-Sum-clause-phrase : goal.operand-returns-in-Sum-clause-phrase
operand-returns-in-Sum-clause-phrase t c = subst (λ (l : Level). IsOperandAt l c.args.place (lexemes_of c.args.tokens.now) c.chain-in-Sum.result) (sym c.in-Sum.is) c.chain-in-Sum.ensures.phrase

pub operand-returns-in-Product-clause-phrase : goal.operand-returns-in-Product-clause-phrase
operand-returns-in-Product-clause-phrase t c = subst (λ (l : Level). IsOperandAt l c.args.place (lexemes_of c.args.tokens.now) c.prefix.result) (sym c.in-Product.is) c.prefix.ensures.phrase

pub chain-returns-in_err-left-clause-phrase : goal.chain-returns-in_err-left-clause-phrase
chain-returns-in_err-left-clause-phrase t c = let p = err_from_is_err_and c.from_residual.result c.from_residual.ensures.1 in rw (p.1, p.2) (level_fail c.args.level c.args.place (lexemes_of c.args.tokens.now) c.in_err-left.field-0.0 c.in_err-left.ensures.phrase)

pub chain-loop-op-init : goal.chain-loop-op-init
chain-loop-op-init t c = record { shorter = c.in_ok-left.ensures.shorter; so_far = level_begin c.args.level c.args.place (lexemes_of c.args.tokens.now) c.in_ok-left.left c.in_ok-left.rest c.in_ok-left.ensures.phrase; tall = λ k. (level_low c.args.level c.args.place (lexemes_of c.args.tokens.now) c.in_ok-left.left c.in_ok-left.rest c.in_ok-left.ensures.phrase k).0 }

pub chain-returns-then-has_no_room-clause-phrase : goal.chain-returns-then-has_no_room-clause-phrase
chain-returns-then-has_no_room-clause-phrase t c = level_high c.args.level c.args.place (lexemes_of c.args.tokens.now) c.loop-op.left c.loop-op.rest c.in-Some.op c.in-Some.site c.in-Some.behind c.loop-op.invariant.so_far c.in-Some.ensures.token c.loop-op.invariant.tall (c.has_no_room.ensures.full c.if-has_no_room.true)

pub chain-returns-in_err-right-clause-phrase : goal.chain-returns-in_err-right-clause-phrase
chain-returns-in_err-right-clause-phrase t c = let p = err_from_is_err_and c.from_residual-in_err-right.result c.from_residual-in_err-right.ensures.1 in rw (p.1, p.2) (level_deep c.args.level c.args.place c.inside.result (lexemes_of c.args.tokens.now) _ _ c.in-Some.op c.in-Some.site c.in-Some.behind c.in_err-right.field-0.0 c.inside.ensures.checked (deeper c.args.place.depth c.inside.result.depth c.inside.ensures.depth) c.loop-op.invariant.so_far c.in-Some.ensures.token c.in_err-right.ensures.phrase)

pub chain-returns-in_err-left-2-clause-phrase : goal.chain-returns-in_err-left-2-clause-phrase
chain-returns-in_err-left-2-clause-phrase t c = let p = err_from_is_err_and c.from_residual-in_err-left-2.result c.from_residual-in_err-left-2.ensures.1 in rw (p.1, p.2) (level_memory c.args.level c.args.place (lexemes_of c.args.tokens.now) c.in_err-left-2.field-0.0 c.in_err-left-2.ensures.memory)

pub chain-loop-op-preserved : goal.chain-loop-op-preserved
chain-loop-op-preserved t c = record { shorter = less_three _ _ _ _ c.in_ok-right.ensures.shorter c.in-Some.ensures.shorter c.loop-op.invariant.shorter; so_far = subst (λ (e : Expr). LevelSoFar c.args.level (lexemes_of c.args.tokens.now) e (lexemes_of c.in_ok-right.after.now)) (sym c.in_ok-left-2.ensures.tree) (level_more c.args.level c.inside.result (lexemes_of c.args.tokens.now) _ _ c.in-Some.op c.in-Some.site c.in-Some.behind c.in_ok-right.right c.in_ok-right.after c.loop-op.invariant.so_far c.in-Some.ensures.token c.in_ok-right.ensures.phrase); tall = λ k. level_tall c.args.place.depth c.loop-op.left.height c.in_ok-right.right.height c.in_ok-left-2.left.height _ _ c.in-Some.op c.in-Some.site _ (c.has_no_room.ensures.room c.if-has_no_room.false k) (c.loop-op.invariant.tall k) (low_weaker c.args.place c.inside.result c.in_ok-right.right.height _ (inside c.args.place c.inside.result c.inside.ensures.checked c.inside.ensures.depth (λ k. room_depth c.args.place.depth c.loop-op.left.height (c.has_no_room.ensures.room c.if-has_no_room.false k))) (level_low c.args.level c.inside.result (lexemes_of c.in-Some.behind.now) c.in_ok-right.right c.in_ok-right.after c.in_ok-right.ensures.phrase) k) c.in_ok-left-2.ensures.height c.in_ok-left-2.ensures.tree }

pub chain-returns-clause-phrase : goal.chain-returns-clause-phrase
chain-returns-clause-phrase t c = level_end c.args.level c.args.place (lexemes_of c.args.tokens.now) c.loop-op.left c.loop-op.rest.now c.kept.result c.loop-op.invariant.so_far c.in_default.ensures.token c.loop-op.invariant.tall c.kept.ensures

pub expression-returns-in_err-cond-clause-phrase : goal.expression-returns-in_err-cond-clause-phrase
expression-returns-in_err-cond-clause-phrase t c = let p = err_from_is_err_and c.from_residual.result c.from_residual.ensures.1 in rw (p.1, p.2) (stops (stop_left (stop_ref c.in_err-cond.ensures.phrase)))

pub expression-returns-in_default-clause-phrase : goal.expression-returns-in_default-clause-phrase
expression-returns-in_default-clause-phrase t c = plain_read c.args.place (lexemes_of c.args.tokens.now) _ c.in_ok-cond.cond c.in_ok-cond.ensures.phrase c.in_default.ensures.token

pub expression-returns-then-has_no_room-clause-phrase : goal.expression-returns-then-has_no_room-clause-phrase
expression-returns-then-has_no_room-clause-phrase t c = choice_high c.args.place (lexemes_of c.args.tokens.now) c.in_ok-cond.cond c.in_ok-cond.rest (lexeme c.in-Some.sign) _ c.in_ok-cond.ensures.phrase c.in-Some.ensures.token (c.has_no_room.ensures.full c.if-has_no_room.true)

pub expression-returns-in_err-yes-clause-phrase : goal.expression-returns-in_err-yes-clause-phrase
expression-returns-in_err-yes-clause-phrase t c = let p = err_from_is_err_and c.from_residual-in_err-yes.result c.from_residual-in_err-yes.ensures.1 in rw (p.1, p.2) (choice_stop c.in_ok-cond.ensures.phrase.0 c.in-Some.ensures.token (stop_left (stop_inside c.args.place c.inside.result c.in_err-yes.field-0.0 (inside c.args.place c.inside.result c.inside.ensures.checked c.inside.ensures.depth (λ k. small_depth c.args.place.depth c.in_ok-cond.cond.height _ (c.in_ok-cond.ensures.phrase.1 k))) refl c.in_err-yes.ensures.phrase)))

pub expression-returns-in_err-_colon-clause-phrase : goal.expression-returns-in_err-_colon-clause-phrase
expression-returns-in_err-_colon-clause-phrase t c = let p = err_from_is_err_and c.from_residual-in_err-_colon.result c.from_residual-in_err-_colon.ensures.1 in rw (p.1, p.2) (choice_stop c.in_ok-cond.ensures.phrase.0 c.in-Some.ensures.token (stop_right (read_ref c.in_ok-yes.ensures.phrase.0) (stop_left (token_halts (text (codes ":")) _ _ c.in_err-_colon.ensures.token))))

pub expression-returns-in_err-no-clause-phrase : goal.expression-returns-in_err-no-clause-phrase
expression-returns-in_err-no-clause-phrase t c = let p = err_from_is_err_and c.from_residual-in_err-no.result c.from_residual-in_err-no.ensures.1 in rw (p.1, p.2) (choice_stop c.in_ok-cond.ensures.phrase.0 c.in-Some.ensures.token (stop_right (read_ref c.in_ok-yes.ensures.phrase.0) (stop_right (token_read c.in_ok-_colon.ensures.token) (stop_inside c.args.place c.inside-2.result c.in_err-no.field-0.0 (inside c.args.place c.inside-2.result c.inside-2.ensures.checked c.inside-2.ensures.depth (λ k. small_depth c.args.place.depth c.in_ok-cond.cond.height _ (c.in_ok-cond.ensures.phrase.1 k))) refl c.in_err-no.ensures.phrase))))

pub expression-returns-in_err-choice-clause-phrase : goal.expression-returns-in_err-choice-clause-phrase
expression-returns-in_err-choice-clause-phrase t c = let p = err_from_is_err_and c.from_residual-in_err-choice.result c.from_residual-in_err-choice.ensures.1 in rw (p.1, p.2) (memory_halted c.in_err-choice.field-0.0 c.in_err-choice.ensures.memory)

pub expression-returns-clause-phrase : goal.expression-returns-clause-phrase
expression-returns-clause-phrase t c = choice_read c.args.place c.inside.result c.inside-2.result c.in_ok-no.rest.now c.in_ok-cond.cond c.in_ok-yes.yes c.in_ok-no.no _ c.kept.result (inside c.args.place c.inside.result c.inside.ensures.checked c.inside.ensures.depth (λ k. small_depth c.args.place.depth c.in_ok-cond.cond.height _ (c.in_ok-cond.ensures.phrase.1 k))) (inside c.args.place c.inside-2.result c.inside-2.ensures.checked c.inside-2.ensures.depth (λ k. small_depth c.args.place.depth c.in_ok-cond.cond.height _ (c.in_ok-cond.ensures.phrase.1 k))) c.in_ok-cond.ensures.phrase c.in-Some.ensures.token c.in_ok-yes.ensures.phrase c.in_ok-_colon.ensures.token c.in_ok-no.ensures.phrase c.in_ok-choice.ensures.tree c.in_ok-choice.ensures.height c.kept.ensures

pub generators-loop-place-init : goal.generators-loop-place-init
generators-loop-place-init t c = record { shorter = omega (arith, ap length c.split_at.ensures.back); so_far = gens_begin c.args.place (lexemes_of c.args.tokens.now) _ _ c.new-found.ensures.items (ap lexemes_of c.split_at.ensures.back) }

pub generators-returns-in_err-next-clause-phrase : goal.generators-returns-in_err-next-clause-phrase
generators-returns-in_err-next-clause-phrase t c = let p = err_from_is_err_and c.from_residual.result c.from_residual.ensures.1 in rw (p.1, p.2) (gens_halts c.args.place _ _ _ _ c.loop-place.invariant.so_far (sym c.starts_with.ensures ∙ c.loop-place-test.true) (subst (λ b. Halted (StopOf c.in_err-next.field-0.0) b c.args.place.depth generator (lexemes_of c.loop-place.rest.now)) c.inside.ensures.checked (c.in_err-next.ensures.halt c.args.place.depth (deeper c.args.place.depth c.inside.result.depth c.inside.ensures.depth))))

pub generators-returns-in_err-push-clause-phrase : goal.generators-returns-in_err-push-clause-phrase
generators-returns-in_err-push-clause-phrase t c = let p = err_from_is_err_and c.from_residual-in_err-push.result c.from_residual-in_err-push.ensures.1 in rw p.1 (memory_halts _ p.2)

pub generators-loop-place-preserved : goal.generators-loop-place-preserved
generators-loop-place-preserved t c = record { shorter = less_le _ _ _ c.in_ok-next.ensures.shorter c.loop-place.invariant.shorter; so_far = subst (λ n. GensRead c.args.place (lexemes_of c.args.tokens.now) c.push.new.self.items n (lexemes_of c.in_ok-next.after.now)) (sym c.max-height.ensures) (gens_next c.args.place (lexemes_of c.args.tokens.now) c.loop-place.found.items c.loop-place.height _ c.in_ok-next.next c.in_ok-next.after _ c.loop-place.invariant.so_far (sym c.starts_with.ensures ∙ c.loop-place-test.true) c.in_ok-push.ensures.items (c.in_ok-next.ensures.phrase, λ k. c.in_ok-next.ensures.near (c.inside.ensures.checked ∙ k))) }

pub generators-returns-clause-phrase : goal.generators-returns-clause-phrase
generators-returns-clause-phrase t c = gens_whole c.args.place _ _ _ c.loop-place.invariant.so_far (sym c.starts_with.ensures ∙ c.loop-place-test.false)

pub generator-returns-in_err-open-clause-halt : goal.generator-returns-in_err-open-clause-halt
generator-returns-in_err-open-clause-halt t c = let p = err_from_is_err_and c.from_residual.result c.from_residual.ensures.1 in rw (p.1, p.2) (λ d up. stops_deep (generator_deeper d c.args.place.depth up) (stop_left (stop_left (token_halts (text (codes "(")) _ _ c.in_err-open.ensures.token))))

pub generator-returns-in_err-lower-clause-halt : goal.generator-returns-in_err-lower-clause-halt
generator-returns-in_err-lower-clause-halt t c = let p = err_from_is_err_and c.from_residual-in_err-lower.result c.from_residual-in_err-lower.ensures.1 in rw (p.1, p.2) (λ d up. stops_deep (generator_deeper d c.args.place.depth up) (stop_left (stop_right (token_read c.in_ok-open.ensures.token) (stop_left (stop_left (stop_ref c.in_err-lower.ensures.phrase))))))

pub generator-returns-in_err-lower_closed-clause-halt : goal.generator-returns-in_err-lower_closed-clause-halt
generator-returns-in_err-lower_closed-clause-halt t c = let p = err_from_is_err_and c.from_residual-in_err-lower_closed.result c.from_residual-in_err-lower_closed.ensures.1 in rw (p.1, p.2) (λ d up. stops_deep (generator_deeper d c.args.place.depth up) (stop_left (stop_right (token_read c.in_ok-open.ensures.token) (stop_left (stop_right (read_ref c.in_ok-lower.ensures.phrase.0) (stop_left (c.in_err-lower_closed.ensures.phrase _ _)))))))

pub generator-returns-in_err-index-clause-halt : goal.generator-returns-in_err-index-clause-halt
generator-returns-in_err-index-clause-halt t c = let p = err_from_is_err_and c.from_residual-in_err-index.result c.from_residual-in_err-index.ensures.1 in rw (p.1, p.2) (λ d up. stops_deep (generator_deeper d c.args.place.depth up) (stop_left (stop_right (token_read c.in_ok-open.ensures.token) (stop_left (stop_right (read_ref c.in_ok-lower.ensures.phrase.0) (stop_right c.in_ok-lower_closed.ensures.phrase.1 (stop_left (c.in_err-index.ensures.phrase _ _))))))))

pub generator-returns-in_err-upper_closed-clause-halt : goal.generator-returns-in_err-upper_closed-clause-halt
generator-returns-in_err-upper_closed-clause-halt t c = let p = err_from_is_err_and c.from_residual-in_err-upper_closed.result c.from_residual-in_err-upper_closed.ensures.1 in rw (p.1, p.2) (λ d up. stops_deep (generator_deeper d c.args.place.depth up) (stop_left (stop_right (token_read c.in_ok-open.ensures.token) (stop_left (stop_right (read_ref c.in_ok-lower.ensures.phrase.0) (stop_right c.in_ok-lower_closed.ensures.phrase.1 (stop_right c.in_ok-index.ensures.phrase.1 (stop_left (c.in_err-upper_closed.ensures.phrase _ _)))))))))

pub generator-returns-in_err-upper-clause-halt : goal.generator-returns-in_err-upper-clause-halt
generator-returns-in_err-upper-clause-halt t c = let p = err_from_is_err_and c.from_residual-in_err-upper.result c.from_residual-in_err-upper.ensures.1 in rw (p.1, p.2) (λ d up. stops_deep (generator_deeper d c.args.place.depth up) (stop_left (stop_right (token_read c.in_ok-open.ensures.token) (stop_left (stop_right (read_ref c.in_ok-lower.ensures.phrase.0) (stop_right c.in_ok-lower_closed.ensures.phrase.1 (stop_right c.in_ok-index.ensures.phrase.1 (stop_right c.in_ok-upper_closed.ensures.phrase.1 (stop_left (stop_ref c.in_err-upper.ensures.phrase))))))))))

pub generator-returns-in_err-step-clause-halt : goal.generator-returns-in_err-step-clause-halt
generator-returns-in_err-step-clause-halt t c = let p = err_from_is_err_and c.from_residual-in_err-step.result c.from_residual-in_err-step.ensures.1 in rw (p.1, p.2) (λ d up. stops_deep (generator_deeper d c.args.place.depth up) (stop_left (stop_right (token_read c.in_ok-open.ensures.token) (stop_left (stop_right (read_ref c.in_ok-lower.ensures.phrase.0) (stop_right c.in_ok-lower_closed.ensures.phrase.1 (stop_right c.in_ok-index.ensures.phrase.1 (stop_right c.in_ok-upper_closed.ensures.phrase.1 (stop_right (read_ref c.in_ok-upper.ensures.phrase.0) (stop_left c.in_err-step.ensures.phrase))))))))))

pub generator-returns-in_err-width-clause-halt : goal.generator-returns-in_err-width-clause-halt
generator-returns-in_err-width-clause-halt t c = let p = err_from_is_err_and c.from_residual-in_err-width.result c.from_residual-in_err-width.ensures.1 in rw (p.1, p.2) (λ d up. stops_deep (generator_deeper d c.args.place.depth up) (stop_left (stop_right (token_read c.in_ok-open.ensures.token) (stop_left (stop_right (read_ref c.in_ok-lower.ensures.phrase.0) (stop_right c.in_ok-lower_closed.ensures.phrase.1 (stop_right c.in_ok-index.ensures.phrase.1 (stop_right c.in_ok-upper_closed.ensures.phrase.1 (stop_right (read_ref c.in_ok-upper.ensures.phrase.0) (stop_right c.in_ok-step.ensures.phrase.1 c.in_err-width.ensures.phrase))))))))))

pub generator-returns-in_err-_close-clause-halt : goal.generator-returns-in_err-_close-clause-halt
generator-returns-in_err-_close-clause-halt t c = let p = err_from_is_err_and c.from_residual-in_err-_close.result c.from_residual-in_err-_close.ensures.1 in rw (p.1, p.2) (λ d up. stops_deep (generator_deeper d c.args.place.depth up) (stop_left (stop_right (token_read c.in_ok-open.ensures.token) (stop_right (read_then (read_ref c.in_ok-lower.ensures.phrase.0) (read_then c.in_ok-lower_closed.ensures.phrase.1 (read_then c.in_ok-index.ensures.phrase.1 (read_then c.in_ok-upper_closed.ensures.phrase.1 (read_then (read_ref c.in_ok-upper.ensures.phrase.0) (read_then c.in_ok-step.ensures.phrase.1 c.in_ok-width.ensures.phrase.1)))))) (token_halts (text (codes ")")) _ _ c.in_err-_close.ensures.token)))))

pub generator-returns-in_err-body-clause-halt : goal.generator-returns-in_err-body-clause-halt
generator-returns-in_err-body-clause-halt t c = let p = err_from_is_err_and c.from_residual-in_err-body.result c.from_residual-in_err-body.ensures.1 in rw (p.1, p.2) (λ d up. stops_deep (generator_deeper d c.args.place.depth up) (stop_right (read_then (token_read c.in_ok-open.ensures.token) (read_then (read_then (read_ref c.in_ok-lower.ensures.phrase.0) (read_then c.in_ok-lower_closed.ensures.phrase.1 (read_then c.in_ok-index.ensures.phrase.1 (read_then c.in_ok-upper_closed.ensures.phrase.1 (read_then (read_ref c.in_ok-upper.ensures.phrase.0) (read_then c.in_ok-step.ensures.phrase.1 c.in_ok-width.ensures.phrase.1)))))) (token_read c.in_ok-_close.ensures.token))) (stop_left c.in_err-body.ensures.phrase)))

pub generator-returns-in_err-_colon-clause-halt : goal.generator-returns-in_err-_colon-clause-halt
generator-returns-in_err-_colon-clause-halt t c = let p = err_from_is_err_and c.from_residual-in_err-_colon.result c.from_residual-in_err-_colon.ensures.1 in rw (p.1, p.2) (λ d up. stops_deep (generator_deeper d c.args.place.depth up) (stop_right (read_then (token_read c.in_ok-open.ensures.token) (read_then (read_then (read_ref c.in_ok-lower.ensures.phrase.0) (read_then c.in_ok-lower_closed.ensures.phrase.1 (read_then c.in_ok-index.ensures.phrase.1 (read_then c.in_ok-upper_closed.ensures.phrase.1 (read_then (read_ref c.in_ok-upper.ensures.phrase.0) (read_then c.in_ok-step.ensures.phrase.1 c.in_ok-width.ensures.phrase.1)))))) (token_read c.in_ok-_close.ensures.token))) (stop_right c.in_ok-body.ensures.phrase.1 (stop_left (token_halts (text (codes ":")) _ _ c.in_err-_colon.ensures.token)))))

pub generator-returns-in_err-cell-clause-halt : goal.generator-returns-in_err-cell-clause-halt
generator-returns-in_err-cell-clause-halt t c = let p = err_from_is_err_and c.from_residual-in_err-cell.result c.from_residual-in_err-cell.ensures.1 in rw (p.1, p.2) (λ d up. stops_deep (generator_deeper d c.args.place.depth up) (stop_right (read_then (token_read c.in_ok-open.ensures.token) (read_then (read_then (read_ref c.in_ok-lower.ensures.phrase.0) (read_then c.in_ok-lower_closed.ensures.phrase.1 (read_then c.in_ok-index.ensures.phrase.1 (read_then c.in_ok-upper_closed.ensures.phrase.1 (read_then (read_ref c.in_ok-upper.ensures.phrase.0) (read_then c.in_ok-step.ensures.phrase.1 c.in_ok-width.ensures.phrase.1)))))) (token_read c.in_ok-_close.ensures.token))) (stop_right c.in_ok-body.ensures.phrase.1 (stop_right (token_read c.in_ok-_colon.ensures.token) (stop_left (stop_ref c.in_err-cell.ensures.phrase))))))

pub generator-returns-in_err-_end-clause-halt : goal.generator-returns-in_err-_end-clause-halt
generator-returns-in_err-_end-clause-halt t c = let p = err_from_is_err_and c.from_residual-in_err-_end.result c.from_residual-in_err-_end.ensures.1 in rw (p.1, p.2) (λ d up. stops_deep (generator_deeper d c.args.place.depth up) (stop_right (read_then (token_read c.in_ok-open.ensures.token) (read_then (read_then (read_ref c.in_ok-lower.ensures.phrase.0) (read_then c.in_ok-lower_closed.ensures.phrase.1 (read_then c.in_ok-index.ensures.phrase.1 (read_then c.in_ok-upper_closed.ensures.phrase.1 (read_then (read_ref c.in_ok-upper.ensures.phrase.0) (read_then c.in_ok-step.ensures.phrase.1 c.in_ok-width.ensures.phrase.1)))))) (token_read c.in_ok-_close.ensures.token))) (stop_right c.in_ok-body.ensures.phrase.1 (stop_right (token_read c.in_ok-_colon.ensures.token) (stop_right (read_ref c.in_ok-cell.ensures.phrase.0) (token_halts (text (codes ";")) _ _ c.in_err-_end.ensures.token))))))

pub generator-returns-clause-phrase : goal.generator-returns-clause-phrase
generator-returns-clause-phrase t c = let above = subst (λ m. IsAbove c.node_height.result m) (c.max-height.ensures ∙ ap (max c.in_ok-lower.lower.height) (c.max-4.ensures ∙ ap (max c.in_ok-upper.upper.height) (c.max-3.ensures ∙ ap (max c.in_ok-step.step.height) (c.max-2.ensures ∙ ap (max c.in_ok-width.width.height) c.max.ensures)))) c.node_height.ensures in (generator_read c.args.place (lexemes_of c.args.tokens.now) _ (lexeme c.in_ok-open.open) _ _ _ c.in_ok-lower.lower c.in_ok-upper.upper c.in_ok-lower_closed.lower_closed c.in_ok-upper_closed.upper_closed c.in_ok-index.index c.in_ok-step.step c.in_ok-width.width c.in_ok-body.body c.in_ok-cell.cell _ _ _ _ _ _ _ c.in_ok-open.ensures.token c.in_ok-lower.ensures.phrase c.in_ok-lower_closed.ensures.phrase.1 c.in_ok-lower_closed.ensures.phrase.2 c.in_ok-index.ensures.phrase.1 c.in_ok-index.ensures.phrase.2 c.in_ok-upper_closed.ensures.phrase.1 c.in_ok-upper_closed.ensures.phrase.2 c.in_ok-upper.ensures.phrase c.in_ok-step.ensures.phrase.1 c.in_ok-step.ensures.phrase.2 c.in_ok-width.ensures.phrase.1 c.in_ok-width.ensures.phrase.2 c.in_ok-_close.ensures.token c.in_ok-body.ensures.phrase.1 c.in_ok-body.ensures.phrase.2 c.in_ok-_colon.ensures.token c.in_ok-cell.ensures.phrase c.in_ok-_end.ensures.token (record { tree = gen_cell _ c.in_ok-cell.cell.tree c.into_inner.ensures; above = above })).0

pub generator-returns-clause-near : goal.generator-returns-clause-near
generator-returns-clause-near t c = let above = subst (λ m. IsAbove c.node_height.result m) (c.max-height.ensures ∙ ap (max c.in_ok-lower.lower.height) (c.max-4.ensures ∙ ap (max c.in_ok-upper.upper.height) (c.max-3.ensures ∙ ap (max c.in_ok-step.step.height) (c.max-2.ensures ∙ ap (max c.in_ok-width.width.height) c.max.ensures)))) c.node_height.ensures in (generator_read c.args.place (lexemes_of c.args.tokens.now) _ (lexeme c.in_ok-open.open) _ _ _ c.in_ok-lower.lower c.in_ok-upper.upper c.in_ok-lower_closed.lower_closed c.in_ok-upper_closed.upper_closed c.in_ok-index.index c.in_ok-step.step c.in_ok-width.width c.in_ok-body.body c.in_ok-cell.cell _ _ _ _ _ _ _ c.in_ok-open.ensures.token c.in_ok-lower.ensures.phrase c.in_ok-lower_closed.ensures.phrase.1 c.in_ok-lower_closed.ensures.phrase.2 c.in_ok-index.ensures.phrase.1 c.in_ok-index.ensures.phrase.2 c.in_ok-upper_closed.ensures.phrase.1 c.in_ok-upper_closed.ensures.phrase.2 c.in_ok-upper.ensures.phrase c.in_ok-step.ensures.phrase.1 c.in_ok-step.ensures.phrase.2 c.in_ok-width.ensures.phrase.1 c.in_ok-width.ensures.phrase.2 c.in_ok-_close.ensures.token c.in_ok-body.ensures.phrase.1 c.in_ok-body.ensures.phrase.2 c.in_ok-_colon.ensures.token c.in_ok-cell.ensures.phrase c.in_ok-_end.ensures.token (record { tree = gen_cell _ c.in_ok-cell.cell.tree c.into_inner.ensures; above = above })).1

pub bound-returns-in-Some-clause-phrase : goal.bound-returns-in-Some-clause-phrase
bound-returns-in-Some-clause-phrase t c = dot_read c.args.place (lexemes_of c.args.tokens.now) _ _ _ c.kept.result c.in-Some.ensures.token c.dot.ensures.tree c.dot.ensures.height c.kept.ensures

pub bound-returns-in_err-value-clause-phrase : goal.bound-returns-in_err-value-clause-phrase
bound-returns-in_err-value-clause-phrase t c = let p = err_from_is_err_and c.from_residual.result c.from_residual.ensures.1 in rw (p.1, p.2) (stops (stop_second c.in_default.ensures.token (stop_ref c.in_err-value.ensures.phrase)))

pub bound-returns-clause-phrase : goal.bound-returns-clause-phrase
bound-returns-clause-phrase t c = given_read c.args.place (lexemes_of c.args.tokens.now) _ c.in_ok-value.value _ c.in_default.ensures.token c.in_ok-value.ensures.phrase c.given.ensures.tree c.given.ensures.height

pub maybe_sum-returns-in_default-clause-phrase : goal.maybe_sum-returns-in_default-clause-phrase
maybe_sum-returns-in_default-clause-phrase t c = (inr tt, read_none c.in_default.ensures.token, maybe_none c.args.place (sign []) (lexemes_of c.args.tokens.now) c.absent.result c.absent.ensures)

pub maybe_sum-returns-in_err-value-clause-phrase : goal.maybe_sum-returns-in_err-value-clause-phrase
maybe_sum-returns-in_err-value-clause-phrase t c = let p = err_from_is_err_and c.from_residual.result c.from_residual.ensures.1 in rw (p.1, p.2) (stop_first (starts_there (text c.args.word.now) c.in-Some.ensures.token) (stop_right (token_read c.in-Some.ensures.token) (stop_ref c.in_err-value.ensures.phrase)))

pub maybe_sum-returns-clause-phrase : goal.maybe_sum-returns-clause-phrase
maybe_sum-returns-clause-phrase t c = (inl (_, unboxed c.in_ok-value.value.tree), read_first (starts_there (text c.args.word.now) c.in-Some.ensures.token) (read_then (token_read c.in-Some.ensures.token) (read_ref c.in_ok-value.ensures.phrase.0)), maybe_some c.args.place _ c.in_ok-value.value c.present.result c.in_ok-value.ensures.phrase.1 c.present.ensures)

pub maybe_default-returns-in_default-clause-phrase : goal.maybe_default-returns-in_default-clause-phrase
maybe_default-returns-in_default-clause-phrase t c = (inr tt, read_none c.in_default.ensures.token, maybe_none c.args.place (sign []) (lexemes_of c.args.tokens.now) c.absent.result c.absent.ensures)

pub maybe_default-returns-in_err-value-clause-phrase : goal.maybe_default-returns-in_err-value-clause-phrase
maybe_default-returns-in_err-value-clause-phrase t c = let p = err_from_is_err_and c.from_residual.result c.from_residual.ensures.1 in rw (p.1, p.2) (stop_first (starts_there (text (codes ",")) c.in-Some.ensures.token) (stop_right (token_read c.in-Some.ensures.token) (stop_ref c.in_err-value.ensures.phrase)))

pub maybe_default-returns-clause-phrase : goal.maybe_default-returns-clause-phrase
maybe_default-returns-clause-phrase t c = (inl (_, unboxed c.in_ok-value.value.tree), read_first (starts_there (text (codes ",")) c.in-Some.ensures.token) (read_then (token_read c.in-Some.ensures.token) (read_ref c.in_ok-value.ensures.phrase.0)), maybe_some c.args.place _ c.in_ok-value.value c.present.result c.in_ok-value.ensures.phrase.1 c.present.ensures)

pub genarray-returns-in_err-word-clause-phrase : goal.genarray-returns-in_err-word-clause-phrase
genarray-returns-in_err-word-clause-phrase t c = let p = err_from_is_err_and c.from_residual.result c.from_residual.ensures.1 in rw (p.1, p.2) (stop_left (token_halts (text (codes "genarray")) _ _ c.in_err-word.ensures.token))

pub genarray-returns-in_err-_open-clause-phrase : goal.genarray-returns-in_err-_open-clause-phrase
genarray-returns-in_err-_open-clause-phrase t c = let p = err_from_is_err_and c.from_residual-in_err-_open.result c.from_residual-in_err-_open.ensures.1 in rw (p.1, p.2) (stop_right (token_read c.in_ok-word.ensures.token) (stop_left (token_halts (text (codes "(")) _ _ c.in_err-_open.ensures.token)))

pub genarray-returns-in_err-shape-clause-phrase : goal.genarray-returns-in_err-shape-clause-phrase
genarray-returns-in_err-shape-clause-phrase t c = let p = err_from_is_err_and c.from_residual-in_err-shape.result c.from_residual-in_err-shape.ensures.1 in rw (p.1, p.2) (stop_right (token_read c.in_ok-word.ensures.token) (stop_right (token_read c.in_ok-_open.ensures.token) (stop_left (stop_left (stop_ref c.in_err-shape.ensures.phrase)))))

pub genarray-returns-in_err-default-clause-phrase : goal.genarray-returns-in_err-default-clause-phrase
genarray-returns-in_err-default-clause-phrase t c = let p = err_from_is_err_and c.from_residual-in_err-default.result c.from_residual-in_err-default.ensures.1 in rw (p.1, p.2) (stop_right (token_read c.in_ok-word.ensures.token) (stop_right (token_read c.in_ok-_open.ensures.token) (stop_left (stop_right (read_ref c.in_ok-shape.ensures.phrase.0) c.in_err-default.ensures.phrase))))

pub genarray-returns-in_err-_close-clause-phrase : goal.genarray-returns-in_err-_close-clause-phrase
genarray-returns-in_err-_close-clause-phrase t c = let p = err_from_is_err_and c.from_residual-in_err-_close.result c.from_residual-in_err-_close.ensures.1 in rw (p.1, p.2) (stop_right (token_read c.in_ok-word.ensures.token) (stop_right (token_read c.in_ok-_open.ensures.token) (stop_right (read_then (read_ref c.in_ok-shape.ensures.phrase.0) c.in_ok-default.ensures.phrase.1) (token_halts (text (codes ")")) _ _ c.in_err-_close.ensures.token))))

pub genarray-returns-clause-phrase : goal.genarray-returns-clause-phrase
genarray-returns-clause-phrase t c = genarray_read c.args.place c.in_ok-shape.shape c.in_ok-default.default _ _ c.in_ok-word.ensures.token c.in_ok-_open.ensures.token c.in_ok-shape.ensures.phrase c.in_ok-default.ensures.phrase.1 c.in_ok-default.ensures.phrase.2 c.in_ok-_close.ensures.token c.genarray.ensures.tree c.genarray.ensures.height

pub modarray-returns-in_err-word-clause-phrase : goal.modarray-returns-in_err-word-clause-phrase
modarray-returns-in_err-word-clause-phrase t c = let p = err_from_is_err_and c.from_residual.result c.from_residual.ensures.1 in rw (p.1, p.2) (stop_left (token_halts (text (codes "modarray")) _ _ c.in_err-word.ensures.token))

pub modarray-returns-in_err-array-clause-phrase : goal.modarray-returns-in_err-array-clause-phrase
modarray-returns-in_err-array-clause-phrase t c = let p = err_from_is_err_and c.from_residual-in_err-array.result c.from_residual-in_err-array.ensures.1 in rw (p.1, p.2) (stop_right (token_read c.in_ok-word.ensures.token) c.in_err-array.ensures.phrase)

pub modarray-returns-clause-phrase : goal.modarray-returns-clause-phrase
modarray-returns-clause-phrase t c = modarray_read c.args.place c.in_ok-array.array _ _ c.in_ok-word.ensures.token c.in_ok-array.ensures.phrase.1 c.in_ok-array.ensures.phrase.2 c.modarray.ensures.tree c.modarray.ensures.height

pub fold-returns-in_err-word-clause-phrase : goal.fold-returns-in_err-word-clause-phrase
fold-returns-in_err-word-clause-phrase t c = let p = err_from_is_err_and c.from_residual.result c.from_residual.ensures.1 in rw (p.1, p.2) (stop_left (token_halts (text (codes "fold")) _ _ c.in_err-word.ensures.token))

pub fold-returns-in_err-_open-clause-phrase : goal.fold-returns-in_err-_open-clause-phrase
fold-returns-in_err-_open-clause-phrase t c = let p = err_from_is_err_and c.from_residual-in_err-_open.result c.from_residual-in_err-_open.ensures.1 in rw (p.1, p.2) (stop_right (token_read c.in_ok-word.ensures.token) (stop_left (token_halts (text (codes "(")) _ _ c.in_err-_open.ensures.token)))

pub fold-returns-in_default-clause-phrase : goal.fold-returns-in_default-clause-phrase
fold-returns-in_default-clause-phrase t c = (stop_right (token_read c.in_ok-word.ensures.token) (stop_right (token_read c.in_ok-_open.ensures.token) (stop_left (stop_left (operator_halts (codes "+", Add) ((codes "*", Mul) ∷ (codes "min", Min) ∷ (codes "max", Max) ∷ (codes "&&", And) ∷ (codes "||", Or) ∷ []) _ c.in_ok-_open.rest refl c.in_default.ensures.token)))))

pub fold-returns-in_err-_comma-clause-phrase : goal.fold-returns-in_err-_comma-clause-phrase
fold-returns-in_err-_comma-clause-phrase t c = let p = err_from_is_err_and c.from_residual-in_err-_comma.result c.from_residual-in_err-_comma.ensures.1 in rw (p.1, p.2) (stop_right (token_read c.in_ok-word.ensures.token) (stop_right (token_read c.in_ok-_open.ensures.token) (stop_left (stop_right (operator_found (codes "+", Add) ((codes "*", Mul) ∷ (codes "min", Min) ∷ (codes "max", Max) ∷ (codes "&&", And) ∷ (codes "||", Or) ∷ []) c.in-Some.ensures.token.0 c.in-Some.ensures.token.1.1).reads (stop_left (token_halts (text (codes ",")) _ _ c.in_err-_comma.ensures.token))))))

pub fold-returns-in_err-neutral-clause-phrase : goal.fold-returns-in_err-neutral-clause-phrase
fold-returns-in_err-neutral-clause-phrase t c = let p = err_from_is_err_and c.from_residual-in_err-neutral.result c.from_residual-in_err-neutral.ensures.1 in rw (p.1, p.2) (stop_right (token_read c.in_ok-word.ensures.token) (stop_right (token_read c.in_ok-_open.ensures.token) (stop_left (stop_right (operator_found (codes "+", Add) ((codes "*", Mul) ∷ (codes "min", Min) ∷ (codes "max", Max) ∷ (codes "&&", And) ∷ (codes "||", Or) ∷ []) c.in-Some.ensures.token.0 c.in-Some.ensures.token.1.1).reads (stop_right (token_read c.in_ok-_comma.ensures.token) (stop_ref c.in_err-neutral.ensures.phrase))))))

pub fold-returns-in_err-_close-clause-phrase : goal.fold-returns-in_err-_close-clause-phrase
fold-returns-in_err-_close-clause-phrase t c = let p = err_from_is_err_and c.from_residual-in_err-_close.result c.from_residual-in_err-_close.ensures.1 in rw (p.1, p.2) (stop_right (token_read c.in_ok-word.ensures.token) (stop_right (token_read c.in_ok-_open.ensures.token) (stop_right (read_then (operator_found (codes "+", Add) ((codes "*", Mul) ∷ (codes "min", Min) ∷ (codes "max", Max) ∷ (codes "&&", And) ∷ (codes "||", Or) ∷ []) c.in-Some.ensures.token.0 c.in-Some.ensures.token.1.1).reads (read_then (token_read c.in_ok-_comma.ensures.token) (read_ref c.in_ok-neutral.ensures.phrase.0))) (token_halts (text (codes ")")) _ _ c.in_err-_close.ensures.token))))

pub fold-returns-clause-phrase : goal.fold-returns-clause-phrase
fold-returns-clause-phrase t c = fold_read c.args.place c.in-Some.op c.in-Some._site c.in_ok-neutral.neutral _ c.in-Some.ensures.token.1.0 c.in_ok-word.ensures.token c.in_ok-_open.ensures.token c.in-Some.ensures.token.0 c.in-Some.ensures.token.1.1 c.in_ok-_comma.ensures.token c.in_ok-neutral.ensures.phrase c.in_ok-_close.ensures.token c.fold.ensures.tree c.fold.ensures.height

pub operation-returns-then-starts_with-clause-phrase : goal.operation-returns-then-starts_with-clause-phrase
operation-returns-then-starts_with-clause-phrase t c = operation_nth c.args.place c.inside-inner.result 0 (lexemes_of c.args.tokens.now) c.genarray.result c.inside-inner.ensures.checked (deeper c.args.place.depth c.inside-inner.result.depth c.inside-inner.ensures.depth) refl (sym c.starts_with.ensures ∙ c.if-starts_with.true) c.genarray.ensures.phrase

pub operation-returns-then-starts_with-2-clause-phrase : goal.operation-returns-then-starts_with-2-clause-phrase
operation-returns-then-starts_with-2-clause-phrase t c = operation_nth c.args.place c.inside-inner.result 1 (lexemes_of c.args.tokens.now) c.modarray.result c.inside-inner.ensures.checked (deeper c.args.place.depth c.inside-inner.result.depth c.inside-inner.ensures.depth) refl (sym c.starts_with-else-starts_with.ensures ∙ c.if-starts_with-2.true) c.modarray.ensures.phrase

pub operation-returns-else-starts_with-2-clause-phrase : goal.operation-returns-else-starts_with-2-clause-phrase
operation-returns-else-starts_with-2-clause-phrase t c = operation_last c.args.place c.inside-inner.result (lexemes_of c.args.tokens.now) c.fold.result c.inside-inner.ensures.checked (deeper c.args.place.depth c.inside-inner.result.depth c.inside-inner.ensures.depth) (sym c.starts_with.ensures ∙ c.if-starts_with.false) (sym c.starts_with-else-starts_with.ensures ∙ c.if-starts_with-2.false) c.fold.ensures.phrase

pub statements-loop-place-init : goal.statements-loop-place-init
statements-loop-place-init t c = record { shorter = omega (arith, ap length c.split_at.ensures.back); so_far = stmts_begin c.args.place (lexemes_of c.args.tokens.now) _ _ c.new-found.ensures.items (ap lexemes_of c.split_at.ensures.back) }

pub statements-returns-in_err-next-clause-phrase : goal.statements-returns-in_err-next-clause-phrase
statements-returns-in_err-next-clause-phrase t c = let p = err_from_is_err_and c.from_residual.result c.from_residual.ensures.1 in rw (p.1, p.2) (stmts_halts c.args.place _ _ _ _ c.loop-place.invariant.so_far (sym c.starts_statement.ensures ∙ c.loop-place-test.true) c.in_err-next.ensures.phrase)

pub statements-returns-in_err-append-clause-phrase : goal.statements-returns-in_err-append-clause-phrase
statements-returns-in_err-append-clause-phrase t c = let p = err_from_is_err_and c.from_residual-in_err-append.result c.from_residual-in_err-append.ensures.1 in rw p.1 (memory_halts _ p.2)

pub statements-loop-place-preserved : goal.statements-loop-place-preserved
statements-loop-place-preserved t c = record { shorter = less_le _ _ _ c.in_ok-next.ensures.shorter c.loop-place.invariant.shorter; so_far = subst (λ n. StmtsRead c.args.place (lexemes_of c.args.tokens.now) c.append.new.self.items n (lexemes_of c.in_ok-next.after.now)) (sym c.max-height.ensures) (stmts_next c.args.place (lexemes_of c.args.tokens.now) c.loop-place.found.items c.loop-place.height _ c.in_ok-next.next c.in_ok-next.after _ c.loop-place.invariant.so_far (sym c.starts_statement.ensures ∙ c.loop-place-test.true) c.in_ok-append.ensures.items c.in_ok-next.ensures.phrase) }

pub statements-returns-clause-phrase : goal.statements-returns-clause-phrase
statements-returns-clause-phrase t c = stmts_whole c.args.place _ _ _ c.loop-place.invariant.so_far (sym c.starts_statement.ensures ∙ c.loop-place-test.false)

pub block-returns-in_err-_open-clause-phrase : goal.block-returns-in_err-_open-clause-phrase
block-returns-in_err-_open-clause-phrase t c = let p = err_from_is_err_and c.from_residual.result c.from_residual.ensures.1 in rw (p.1, p.2) (stops (stop_left (token_halts (text (codes "{")) _ _ c.in_err-_open.ensures.token)))

pub block-returns-in_err-body-clause-phrase : goal.block-returns-in_err-body-clause-phrase
block-returns-in_err-body-clause-phrase t c = let p = err_from_is_err_and c.from_residual-in_err-body.result c.from_residual-in_err-body.ensures.1 in rw (p.1, p.2) (stops (stop_right (token_read c.in_ok-_open.ensures.token) (stop_left c.in_err-body.ensures.phrase)))

pub block-returns-in_err-_close-clause-phrase : goal.block-returns-in_err-_close-clause-phrase
block-returns-in_err-_close-clause-phrase t c = let p = err_from_is_err_and c.from_residual-in_err-_close.result c.from_residual-in_err-_close.ensures.1 in rw (p.1, p.2) (stops (stop_right (token_read c.in_ok-_open.ensures.token) (stop_right c.in_ok-body.ensures.phrase.1 (token_halts (text (codes "}")) _ _ c.in_err-_close.ensures.token))))

pub block-returns-clause-phrase : goal.block-returns-clause-phrase
block-returns-clause-phrase t c = block_read c.args.place c.in_ok-body.body _ c.in_ok-_open.ensures.token c.in_ok-body.ensures.phrase.1 c.in_ok-body.ensures.phrase.2 c.in_ok-_close.ensures.token

pub maybe_block-returns-then-starts_with-clause-phrase : goal.maybe_block-returns-then-starts_with-clause-phrase
maybe_block-returns-then-starts_with-clause-phrase t c = body_some c.args.place (lexemes_of c.args.tokens.now) c.block.result (sym c.starts_with.ensures ∙ c.if-starts_with.true) c.block.ensures.phrase

pub maybe_block-returns-clause-phrase : goal.maybe_block-returns-clause-phrase
maybe_block-returns-clause-phrase t c = (inr tt, read_none (sym c.starts_with.ensures ∙ c.if-starts_with.false), none_read c.args.place _ c.new.ensures.items refl)

pub assignment-returns-in_err-node-clause-phrase : goal.assignment-returns-in_err-node-clause-phrase
assignment-returns-in_err-node-clause-phrase t c = let p = err_from_is_err_and c.from_residual.result c.from_residual.ensures.1 in rw (p.1, p.2) (stop_left (stop_ref c.in_err-node.ensures.phrase))

pub assignment-returns-in_err-_end-clause-phrase : goal.assignment-returns-in_err-_end-clause-phrase
assignment-returns-in_err-_end-clause-phrase t c = let p = err_from_is_err_and c.from_residual-in_err-_end.result c.from_residual-in_err-_end.ensures.1 in rw (p.1, p.2) (stop_right (read_ref c.in_ok-node.ensures.phrase.0) (token_halts (text (codes ";")) _ _ c.in_err-_end.ensures.token))

pub assignment-returns-in_err-one-clause-phrase : goal.assignment-returns-in_err-one-clause-phrase
assignment-returns-in_err-one-clause-phrase t c = let p = err_from_is_err_and c.from_residual-in_err-one.result c.from_residual-in_err-one.ensures.1 in rw (p.1, p.2) (memory_halts c.in_err-one.field-0.0 c.in_err-one.ensures.memory)

pub assignment-returns-clause-phrase : goal.assignment-returns-clause-phrase
assignment-returns-clause-phrase t c = assignment_read c.args.place c.in_ok-node.node _ c.in_ok-node.ensures.phrase c.in_ok-_end.ensures.token c.in_ok-one.ensures.tree c.in_ok-one.ensures.height

pub conditional-returns-in_err-node-clause-phrase : goal.conditional-returns-in_err-node-clause-phrase
conditional-returns-in_err-node-clause-phrase t c = let p = err_from_is_err_and c.from_residual.result c.from_residual.ensures.1 in rw (p.1, p.2) (stop_ref c.in_err-node.ensures.phrase)

pub conditional-returns-in_err-one-clause-phrase : goal.conditional-returns-in_err-one-clause-phrase
conditional-returns-in_err-one-clause-phrase t c = let p = err_from_is_err_and c.from_residual-in_err-one.result c.from_residual-in_err-one.ensures.1 in rw (p.1, p.2) (memory_halts c.in_err-one.field-0.0 c.in_err-one.ensures.memory)

pub conditional-returns-clause-phrase : goal.conditional-returns-clause-phrase
conditional-returns-clause-phrase t c = conditional_read c.args.place c.in_ok-node.node _ c.in_ok-node.ensures.phrase c.in_ok-one.ensures.tree c.in_ok-one.ensures.height

pub while_loop-returns-in_err-word-clause-phrase : goal.while_loop-returns-in_err-word-clause-phrase
while_loop-returns-in_err-word-clause-phrase t c = let p = err_from_is_err_and c.from_residual.result c.from_residual.ensures.1 in rw (p.1, p.2) (stop_left (token_halts (text (codes "while")) _ _ c.in_err-word.ensures.token))

pub while_loop-returns-in_err-cond-clause-phrase : goal.while_loop-returns-in_err-cond-clause-phrase
while_loop-returns-in_err-cond-clause-phrase t c = let p = err_from_is_err_and c.from_residual-in_err-cond.result c.from_residual-in_err-cond.ensures.1 in rw (p.1, p.2) (stop_right (token_read c.in_ok-word.ensures.token) (stop_left c.in_err-cond.ensures.phrase))

pub while_loop-returns-in_err-body-clause-phrase : goal.while_loop-returns-in_err-body-clause-phrase
while_loop-returns-in_err-body-clause-phrase t c = let p = err_from_is_err_and c.from_residual-in_err-body.result c.from_residual-in_err-body.ensures.1 in rw (p.1, p.2) (stop_right (token_read c.in_ok-word.ensures.token) (stop_right c.in_ok-cond.ensures.phrase.1 (stop_ref c.in_err-body.ensures.phrase)))

pub while_loop-returns-in_err-one-clause-phrase : goal.while_loop-returns-in_err-one-clause-phrase
while_loop-returns-in_err-one-clause-phrase t c = let p = err_from_is_err_and c.from_residual-in_err-one.result c.from_residual-in_err-one.ensures.1 in rw (p.1, p.2) (memory_halts c.in_err-one.field-0.0 c.in_err-one.ensures.memory)

pub while_loop-returns-clause-phrase : goal.while_loop-returns-clause-phrase
while_loop-returns-clause-phrase t c = while_read c.args.place c.in_ok-cond.cond c.in_ok-body.body c.while_do.result _ _ c.in_ok-word.ensures.token c.in_ok-cond.ensures.phrase.1 c.in_ok-cond.ensures.phrase.2 c.in_ok-body.ensures.phrase c.while_do.ensures.tree c.while_do.ensures.height c.in_ok-one.ensures.tree c.in_ok-one.ensures.height

pub do_loop-returns-in_err-word-clause-phrase : goal.do_loop-returns-in_err-word-clause-phrase
do_loop-returns-in_err-word-clause-phrase t c = let p = err_from_is_err_and c.from_residual.result c.from_residual.ensures.1 in rw (p.1, p.2) (stop_left (token_halts (text (codes "do")) _ _ c.in_err-word.ensures.token))

pub do_loop-returns-in_err-body-clause-phrase : goal.do_loop-returns-in_err-body-clause-phrase
do_loop-returns-in_err-body-clause-phrase t c = let p = err_from_is_err_and c.from_residual-in_err-body.result c.from_residual-in_err-body.ensures.1 in rw (p.1, p.2) (stop_right (token_read c.in_ok-word.ensures.token) (stop_left (stop_ref c.in_err-body.ensures.phrase)))

pub do_loop-returns-in_err-test-clause-phrase : goal.do_loop-returns-in_err-test-clause-phrase
do_loop-returns-in_err-test-clause-phrase t c = let p = err_from_is_err_and c.from_residual-in_err-test.result c.from_residual-in_err-test.ensures.1 in rw (p.1, p.2) (stop_right (token_read c.in_ok-word.ensures.token) (stop_right (read_ref c.in_ok-body.ensures.phrase.0) (stop_left (token_halts (text (codes "while")) _ _ c.in_err-test.ensures.token))))

pub do_loop-returns-in_err-cond-clause-phrase : goal.do_loop-returns-in_err-cond-clause-phrase
do_loop-returns-in_err-cond-clause-phrase t c = let p = err_from_is_err_and c.from_residual-in_err-cond.result c.from_residual-in_err-cond.ensures.1 in rw (p.1, p.2) (stop_right (token_read c.in_ok-word.ensures.token) (stop_right (read_ref c.in_ok-body.ensures.phrase.0) (stop_right (token_read c.in_ok-test.ensures.token) (stop_left c.in_err-cond.ensures.phrase))))

pub do_loop-returns-in_err-_end-clause-phrase : goal.do_loop-returns-in_err-_end-clause-phrase
do_loop-returns-in_err-_end-clause-phrase t c = let p = err_from_is_err_and c.from_residual-in_err-_end.result c.from_residual-in_err-_end.ensures.1 in rw (p.1, p.2) (stop_right (token_read c.in_ok-word.ensures.token) (stop_right (read_ref c.in_ok-body.ensures.phrase.0) (stop_right (token_read c.in_ok-test.ensures.token) (stop_right c.in_ok-cond.ensures.phrase.1 (token_halts (text (codes ";")) _ _ c.in_err-_end.ensures.token)))))

pub do_loop-returns-in_err-one-clause-phrase : goal.do_loop-returns-in_err-one-clause-phrase
do_loop-returns-in_err-one-clause-phrase t c = let p = err_from_is_err_and c.from_residual-in_err-one.result c.from_residual-in_err-one.ensures.1 in rw (p.1, p.2) (memory_halts c.in_err-one.field-0.0 c.in_err-one.ensures.memory)

pub do_loop-returns-clause-phrase : goal.do_loop-returns-clause-phrase
do_loop-returns-clause-phrase t c = do_read c.args.place c.in_ok-cond.cond c.in_ok-body.body c.do_while.result _ _ c.in_ok-word.ensures.token c.in_ok-body.ensures.phrase c.in_ok-test.ensures.token c.in_ok-cond.ensures.phrase.1 c.in_ok-cond.ensures.phrase.2 c.in_ok-_end.ensures.token c.do_while.ensures.tree c.do_while.ensures.height c.in_ok-one.ensures.tree c.in_ok-one.ensures.height

pub for_loop-returns-in_err-word-clause-phrase : goal.for_loop-returns-in_err-word-clause-phrase
for_loop-returns-in_err-word-clause-phrase t c = let p = err_from_is_err_and c.from_residual.result c.from_residual.ensures.1 in rw (p.1, p.2) (for_halts c.args.place (lexemes_of c.args.tokens.now) c.in_err-word.field-0.0 (stop_left (token_halts (text (codes "for")) _ _ c.in_err-word.ensures.token)))

pub for_loop-returns-then-has_no_room-clause-phrase : goal.for_loop-returns-then-has_no_room-clause-phrase
for_loop-returns-then-has_no_room-clause-phrase t c = for_high c.args.place c.args.tokens (c.has_no_room.ensures.full c.if-has_no_room.true)

pub for_loop-returns-in_err-_open-clause-phrase : goal.for_loop-returns-in_err-_open-clause-phrase
for_loop-returns-in_err-_open-clause-phrase t c = let p = err_from_is_err_and c.from_residual-in_err-_open.result c.from_residual-in_err-_open.ensures.1 in rw (p.1, p.2) (for_halts c.args.place (lexemes_of c.args.tokens.now) c.in_err-_open.field-0.0 (stop_right (token_read c.in_ok-word.ensures.token) (stop_left (stop_left (token_halts (text (codes "(")) _ _ c.in_err-_open.ensures.token)))))

pub for_loop-returns-in_err-start-clause-phrase : goal.for_loop-returns-in_err-start-clause-phrase
for_loop-returns-in_err-start-clause-phrase t c = let p = err_from_is_err_and c.from_residual-in_err-start.result c.from_residual-in_err-start.ensures.1 in rw (p.1, p.2) (for_halts c.args.place (lexemes_of c.args.tokens.now) c.in_err-start.field-0.0 (stop_right (token_read c.in_ok-word.ensures.token) (stop_left (stop_right (token_read c.in_ok-_open.ensures.token) (stop_left (stop_left (stop_ref c.in_err-start.ensures.phrase)))))))

pub for_loop-returns-in_err-_end-clause-phrase : goal.for_loop-returns-in_err-_end-clause-phrase
for_loop-returns-in_err-_end-clause-phrase t c = let p = err_from_is_err_and c.from_residual-in_err-_end.result c.from_residual-in_err-_end.ensures.1 in rw (p.1, p.2) (for_halts c.args.place (lexemes_of c.args.tokens.now) c.in_err-_end.field-0.0 (stop_right (token_read c.in_ok-word.ensures.token) (stop_left (stop_right (token_read c.in_ok-_open.ensures.token) (stop_left (stop_right (read_ref c.in_ok-start.ensures.phrase.0) (stop_left (token_halts (text (codes ";")) _ _ c.in_err-_end.ensures.token))))))))

pub for_loop-returns-in_err-cond-clause-phrase : goal.for_loop-returns-in_err-cond-clause-phrase
for_loop-returns-in_err-cond-clause-phrase t c = let p = err_from_is_err_and c.from_residual-in_err-cond.result c.from_residual-in_err-cond.ensures.1 in rw (p.1, p.2) (for_rest_halts c.args.place c.inside-inner.result (lexemes_of c.args.tokens.now) c.in_err-cond.field-0.0 c.inside-inner.ensures.checked (deeper c.args.place.depth c.inside-inner.result.depth c.inside-inner.ensures.depth) c.in_ok-word.ensures.token c.in_ok-_open.ensures.token (read_ref c.in_ok-start.ensures.phrase.0) (stop_right (token_read c.in_ok-_end.ensures.token) (stop_left (stop_ref c.in_err-cond.ensures.phrase))))

pub for_loop-returns-in_err-_end-2-clause-phrase : goal.for_loop-returns-in_err-_end-2-clause-phrase
for_loop-returns-in_err-_end-2-clause-phrase t c = let p = err_from_is_err_and c.from_residual-in_err-_end-2.result c.from_residual-in_err-_end-2.ensures.1 in rw (p.1, p.2) (for_halts c.args.place (lexemes_of c.args.tokens.now) c.in_err-_end-2.field-0.0 (stop_right (token_read c.in_ok-word.ensures.token) (stop_left (stop_right (token_read c.in_ok-_open.ensures.token) (stop_left (stop_right (read_ref c.in_ok-start.ensures.phrase.0) (stop_right (token_read c.in_ok-_end.ensures.token) (stop_right (read_ref c.in_ok-cond.ensures.phrase.0) (stop_left (token_halts (text (codes ";")) _ _ c.in_err-_end-2.ensures.token))))))))))

pub for_loop-returns-in_err-step-clause-phrase : goal.for_loop-returns-in_err-step-clause-phrase
for_loop-returns-in_err-step-clause-phrase t c = let p = err_from_is_err_and c.from_residual-in_err-step.result c.from_residual-in_err-step.ensures.1 in rw (p.1, p.2) (for_rest_halts c.args.place c.inside-inner.result (lexemes_of c.args.tokens.now) c.in_err-step.field-0.0 c.inside-inner.ensures.checked (deeper c.args.place.depth c.inside-inner.result.depth c.inside-inner.ensures.depth) c.in_ok-word.ensures.token c.in_ok-_open.ensures.token (read_ref c.in_ok-start.ensures.phrase.0) (stop_right (token_read c.in_ok-_end.ensures.token) (stop_right (read_ref c.in_ok-cond.ensures.phrase.0) (stop_right (token_read c.in_ok-_end-2.ensures.token) (stop_ref c.in_err-step.ensures.phrase)))))

pub for_loop-returns-in_err-_close-clause-phrase : goal.for_loop-returns-in_err-_close-clause-phrase
for_loop-returns-in_err-_close-clause-phrase t c = let p = err_from_is_err_and c.from_residual-in_err-_close.result c.from_residual-in_err-_close.ensures.1 in rw (p.1, p.2) (for_halts c.args.place (lexemes_of c.args.tokens.now) c.in_err-_close.field-0.0 (stop_right (token_read c.in_ok-word.ensures.token) (stop_left (stop_right (token_read c.in_ok-_open.ensures.token) (stop_right (read_then (read_ref c.in_ok-start.ensures.phrase.0) (read_then (token_read c.in_ok-_end.ensures.token) (read_then (read_ref c.in_ok-cond.ensures.phrase.0) (read_then (token_read c.in_ok-_end-2.ensures.token) (read_ref c.in_ok-step.ensures.phrase.0))))) (token_halts (text (codes ")")) _ _ c.in_err-_close.ensures.token))))))

pub for_loop-returns-in_err-body-clause-phrase : goal.for_loop-returns-in_err-body-clause-phrase
for_loop-returns-in_err-body-clause-phrase t c = let p = err_from_is_err_and c.from_residual-in_err-body.result c.from_residual-in_err-body.ensures.1 in rw (p.1, p.2) (for_body_halts c.args.place c.inside-inner.result (lexemes_of c.args.tokens.now) c.in_err-body.field-0.0 c.inside-inner.ensures.checked (deeper c.args.place.depth c.inside-inner.result.depth c.inside-inner.ensures.depth) c.in_ok-word.ensures.token (read_then (token_read c.in_ok-_open.ensures.token) (read_then (read_then (read_ref c.in_ok-start.ensures.phrase.0) (read_then (token_read c.in_ok-_end.ensures.token) (read_then (read_ref c.in_ok-cond.ensures.phrase.0) (read_then (token_read c.in_ok-_end-2.ensures.token) (read_ref c.in_ok-step.ensures.phrase.0))))) (token_read c.in_ok-_close.ensures.token))) c.in_err-body.ensures.phrase)

pub for_loop-returns-in_err-for_loop-clause-phrase : goal.for_loop-returns-in_err-for_loop-clause-phrase
for_loop-returns-in_err-for_loop-clause-phrase t c = let p = err_from_is_err_and c.from_residual-in_err-for_loop.result c.from_residual-in_err-for_loop.ensures.1 in rw (p.1, p.2) (memory_so c.in_err-for_loop.field-0.0 c.in_err-for_loop.ensures.memory)

pub for_loop-returns-clause-phrase : goal.for_loop-returns-clause-phrase
for_loop-returns-clause-phrase t c = for_read c.args.place c.in_ok-start.start c.in_ok-cond.cond c.in_ok-step.step c.in_ok-body.body _ c.in_ok-word.ensures.token c.in_ok-_open.ensures.token c.in_ok-start.ensures.phrase c.in_ok-_end.ensures.token (c.in_ok-cond.ensures.phrase.0, low_weaker c.args.place c.inside-inner.result c.in_ok-cond.cond.height (height (unboxed c.in_ok-cond.cond.tree)) (inside c.args.place c.inside-inner.result c.inside-inner.ensures.checked c.inside-inner.ensures.depth (λ k. room_depth c.args.place.depth 2 (c.has_no_room.ensures.room c.if-has_no_room.false k))) c.in_ok-cond.ensures.phrase.1) c.in_ok-_end-2.ensures.token (c.in_ok-step.ensures.phrase.0, low_weaker c.args.place c.inside-inner.result c.in_ok-step.step.height (stmt_height (View.stmt c.in_ok-step.step.tree)) (inside c.args.place c.inside-inner.result c.inside-inner.ensures.checked c.inside-inner.ensures.depth (λ k. room_depth c.args.place.depth 2 (c.has_no_room.ensures.room c.if-has_no_room.false k))) c.in_ok-step.ensures.phrase.1) c.in_ok-_close.ensures.token (c.in_ok-body.ensures.phrase.0, for_low c.args.place c.inside-inner.result c.in_ok-body.body.height _ c.inside-inner.ensures.checked c.in_ok-body.ensures.phrase.1) c.in_ok-for_loop.ensures.trees c.in_ok-for_loop.ensures.height

pub any_statement-returns-then-starts_name-clause-phrase : goal.any_statement-returns-then-starts_name-clause-phrase
any_statement-returns-then-starts_name-clause-phrase t c = statement_nth c.args.place c.args.place 0 (lexemes_of c.args.tokens.now) c.assignment.result refl (sym c.starts_name.ensures ∙ c.if-starts_name.true) refl (λ v h. grows_statement c.args.place.depth (inl v) h) c.assignment.ensures.phrase

pub any_statement-returns-then-starts_with-clause-phrase : goal.any_statement-returns-then-starts_with-clause-phrase
any_statement-returns-then-starts_with-clause-phrase t c = statement_nth c.args.place c.args.place 1 (lexemes_of c.args.tokens.now) c.conditional.result refl (sym c.starts_with.ensures ∙ c.if-starts_with.true) refl (λ v h. grows_statement c.args.place.depth (inr (inl v)) h) c.conditional.ensures.phrase

pub any_statement-returns-then-starts_with-2-clause-phrase : goal.any_statement-returns-then-starts_with-2-clause-phrase
any_statement-returns-then-starts_with-2-clause-phrase t c = statement_nth c.args.place c.inside-inner.result 2 (lexemes_of c.args.tokens.now) c.while_loop.result refl (sym c.starts_with-else-starts_with.ensures ∙ c.if-starts_with-2.true) c.inside-inner.ensures.checked (while_deeper c.args.place.depth c.inside-inner.result.depth (deeper c.args.place.depth c.inside-inner.result.depth c.inside-inner.ensures.depth)) c.while_loop.ensures.phrase

pub any_statement-returns-then-starts_with-3-clause-phrase : goal.any_statement-returns-then-starts_with-3-clause-phrase
any_statement-returns-then-starts_with-3-clause-phrase t c = statement_nth c.args.place c.inside-inner.result 3 (lexemes_of c.args.tokens.now) c.do_loop.result refl (sym c.starts_with-else-starts_with-2.ensures ∙ c.if-starts_with-3.true) c.inside-inner.ensures.checked (do_deeper c.args.place.depth c.inside-inner.result.depth (deeper c.args.place.depth c.inside-inner.result.depth c.inside-inner.ensures.depth)) c.do_loop.ensures.phrase

pub any_statement-returns-else-starts_with-3-clause-phrase : goal.any_statement-returns-else-starts_with-3-clause-phrase
any_statement-returns-else-starts_with-3-clause-phrase t c = statement_last c.args.place (lexemes_of c.args.tokens.now) c.for_loop.result ((sym c.starts_name.ensures ∙ c.if-starts_name.false), ((sym c.starts_with.ensures ∙ c.if-starts_with.false), ((sym c.starts_with-else-starts_with.ensures ∙ c.if-starts_with-2.false), ((sym c.starts_with-else-starts_with-2.ensures ∙ c.if-starts_with-3.false), tt)))) c.for_loop.ensures.phrase

pub statement-returns-in_err-node-clause-phrase : goal.statement-returns-in_err-node-clause-phrase
statement-returns-in_err-node-clause-phrase t c = let p = err_from_is_err_and c.from_residual.result c.from_residual.ensures.1 in rw (p.1, p.2) c.in_err-node.ensures.phrase

pub statement-returns-then-has_no_room-clause-phrase : goal.statement-returns-then-has_no_room-clause-phrase
statement-returns-then-has_no_room-clause-phrase t c = statement_high c.args.place c.args.tokens (c.has_no_room.ensures.full c.if-has_no_room.true)

pub statement-returns-clause-phrase : goal.statement-returns-clause-phrase
statement-returns-clause-phrase t c = statement_kept c.args.place (lexemes_of c.args.tokens.now) c.in_ok-node.node c.in_ok-node.rest.now _ c.kept.result c.in_ok-node.ensures.phrase.1 c.in_ok-node.ensures.phrase.2 c.kept.ensures

pub if_statement-returns-then-has_no_room-clause-phrase : goal.if_statement-returns-then-has_no_room-clause-phrase
if_statement-returns-then-has_no_room-clause-phrase t c = if_high c.args.place c.args.tokens (c.has_no_room.ensures.full c.if-has_no_room.true)

pub if_statement-returns-in_err-word-clause-phrase : goal.if_statement-returns-in_err-word-clause-phrase
if_statement-returns-in_err-word-clause-phrase t c = let p = err_from_is_err_and c.from_residual.result c.from_residual.ensures.1 in rw (p.1, p.2) (stops (stop_left (token_halts (text (codes "if")) _ _ c.in_err-word.ensures.token)))

pub if_statement-returns-in_err-cond-clause-phrase : goal.if_statement-returns-in_err-cond-clause-phrase
if_statement-returns-in_err-cond-clause-phrase t c = let p = err_from_is_err_and c.from_residual-in_err-cond.result c.from_residual-in_err-cond.ensures.1 in rw (p.1, p.2) (cond_halts c.args.place c.inside-inner.result (lexemes_of c.args.tokens.now) _ _ c.in_err-cond.field-0.0 c.inside-inner.ensures.checked (deeper c.args.place.depth c.inside-inner.result.depth c.inside-inner.ensures.depth) c.in_ok-word.ensures.token c.in_err-cond.ensures.phrase)

pub if_statement-returns-in_err-yes-clause-phrase : goal.if_statement-returns-in_err-yes-clause-phrase
if_statement-returns-in_err-yes-clause-phrase t c = let p = err_from_is_err_and c.from_residual-in_err-yes.result c.from_residual-in_err-yes.ensures.1 in rw (p.1, p.2) (stops (stop_right (token_read c.in_ok-word.ensures.token) (stop_right c.in_ok-cond.ensures.phrase.1 (stop_left (stop_inside c.args.place c.inside.result c.in_err-yes.field-0.0 (inside c.args.place c.inside.result c.inside.ensures.checked c.inside.ensures.depth (λ k. room_depth c.args.place.depth 1 (c.has_no_room.ensures.room c.if-has_no_room.false k))) refl c.in_err-yes.ensures.phrase)))))

pub if_statement-returns-in_err-no-clause-phrase : goal.if_statement-returns-in_err-no-clause-phrase
if_statement-returns-in_err-no-clause-phrase t c = let p = err_from_is_err_and c.from_residual-in_err-no.result c.from_residual-in_err-no.ensures.1 in rw (p.1, p.2) (stops (stop_right (token_read c.in_ok-word.ensures.token) (stop_right c.in_ok-cond.ensures.phrase.1 (stop_right (read_ref c.in_ok-yes.ensures.phrase.0) (else_stop c.args.place c.inside-2.result c.in_err-no.field-0.0 (inside c.args.place c.inside-2.result c.inside-2.ensures.checked c.inside-2.ensures.depth (λ k. room_depth c.args.place.depth 1 (c.has_no_room.ensures.room c.if-has_no_room.false k))) c.in_err-no.ensures.phrase)))))

pub if_statement-returns-clause-phrase : goal.if_statement-returns-clause-phrase
if_statement-returns-clause-phrase t c = if_read c.args.place c.inside.result c.inside-2.result c.in_ok-no.rest.now c.in_ok-cond.cond c.in_ok-yes.yes c.in_ok-no.no c.if_else.result _ _ c.kept.result (inside c.args.place c.inside.result c.inside.ensures.checked c.inside.ensures.depth (λ k. room_depth c.args.place.depth 1 (c.has_no_room.ensures.room c.if-has_no_room.false k))) (inside c.args.place c.inside-2.result c.inside-2.ensures.checked c.inside-2.ensures.depth (λ k. room_depth c.args.place.depth 1 (c.has_no_room.ensures.room c.if-has_no_room.false k))) c.in_ok-word.ensures.token c.in_ok-cond.ensures.phrase.1 (parens_weaker c.args.place c.inside-inner.result c.in_ok-cond.cond _ (inside c.args.place c.inside-inner.result c.inside-inner.ensures.checked c.inside-inner.ensures.depth (λ k. room_depth c.args.place.depth 1 (c.has_no_room.ensures.room c.if-has_no_room.false k))) c.in_ok-cond.ensures.phrase.2) c.in_ok-yes.ensures.phrase c.in_ok-no.ensures.phrase.1 c.in_ok-no.ensures.phrase.2 c.if_else.ensures.tree c.if_else.ensures.height c.kept.ensures

pub maybe_else-returns-in_default-clause-phrase : goal.maybe_else-returns-in_default-clause-phrase
maybe_else-returns-in_default-clause-phrase t c = (inr tt, read_none c.in_default.ensures.token, none_read c.args.place _ c.new.ensures.items refl)

pub maybe_else-returns-clause-phrase : goal.maybe_else-returns-clause-phrase
maybe_else-returns-clause-phrase t c = else_some c.args.place (lexemes_of c.args.tokens.now) _ _ c.else_branch.result c.in-Some.ensures.token c.else_branch.ensures.phrase

pub else_branch-returns-then-starts_with-clause-phrase : goal.else_branch-returns-then-starts_with-clause-phrase
else_branch-returns-then-starts_with-clause-phrase t c = else_block c.args.place (lexemes_of c.args.tokens.now) c.block.result (sym c.starts_with.ensures ∙ c.if-starts_with.true) c.block.ensures.phrase

pub else_branch-returns-in_err-node-clause-phrase : goal.else_branch-returns-in_err-node-clause-phrase
else_branch-returns-in_err-node-clause-phrase t c = let p = err_from_is_err_and c.from_residual.result c.from_residual.ensures.1 in rw (p.1, p.2) (stops (stop_second (sym c.starts_with.ensures ∙ c.if-starts_with.false) (stop_ref c.in_err-node.ensures.phrase)))

pub else_branch-returns-in_err-one-clause-phrase : goal.else_branch-returns-in_err-one-clause-phrase
else_branch-returns-in_err-one-clause-phrase t c = let p = err_from_is_err_and c.from_residual-in_err-one.result c.from_residual-in_err-one.ensures.1 in rw (p.1, p.2) (memory_halted c.in_err-one.field-0.0 c.in_err-one.ensures.memory)

pub else_branch-returns-clause-phrase : goal.else_branch-returns-clause-phrase
else_branch-returns-clause-phrase t c = else_if c.args.place (lexemes_of c.args.tokens.now) _ c.in_ok-node.node c.in_ok-one.field-0 (sym c.starts_with.ensures ∙ c.if-starts_with.false) c.in_ok-node.ensures.phrase c.in_ok-one.ensures.tree c.in_ok-one.ensures.height

pub several-returns-in_err-targets-clause-phrase : goal.several-returns-in_err-targets-clause-phrase
several-returns-in_err-targets-clause-phrase t c = let p = err_from_is_err_and c.from_residual.result c.from_residual.ensures.1 in rw (p.1, p.2) (stop_left (c.in_err-targets.ensures.phrase _ _))

pub several-returns-in_err-_sign-clause-phrase : goal.several-returns-in_err-_sign-clause-phrase
several-returns-in_err-_sign-clause-phrase t c = let p = err_from_is_err_and c.from_residual-in_err-_sign.result c.from_residual-in_err-_sign.ensures.1 in rw (p.1, p.2) (stop_right c.in_ok-targets.ensures.phrase.1 (stop_left (token_halts (text (codes "=")) _ _ c.in_err-_sign.ensures.token)))

pub several-returns-in_err-value-clause-phrase : goal.several-returns-in_err-value-clause-phrase
several-returns-in_err-value-clause-phrase t c = let p = err_from_is_err_and c.from_residual-in_err-value.result c.from_residual-in_err-value.ensures.1 in rw (p.1, p.2) (stop_right c.in_ok-targets.ensures.phrase.1 (stop_right (token_read c.in_ok-_sign.ensures.token) (stop_ref c.in_err-value.ensures.phrase)))

pub several-returns-clause-phrase : goal.several-returns-clause-phrase
several-returns-clause-phrase t c = several_read c.args.place (lexeme c.args.token) c.in_ok-targets.targets c.in_ok-value.value _ _ c.in_ok-targets.ensures.phrase.1 c.in_ok-targets.ensures.phrase.2 c.in_ok-_sign.ensures.token c.in_ok-value.ensures.phrase c.assign.ensures.tree c.assign.ensures.height

pub replacement-returns-in_err-open-clause-phrase : goal.replacement-returns-in_err-open-clause-phrase
replacement-returns-in_err-open-clause-phrase t c = let p = err_from_is_err_and c.from_residual.result c.from_residual.ensures.1 in rw (p.1, p.2) (replace_halts c.args.place (lexemes_of c.args.tokens.now) c.in_err-open.field-0.0 (stop_left (token_halts (text (codes "[")) _ _ c.in_err-open.ensures.token)))

pub replacement-returns-in_err-index-clause-phrase : goal.replacement-returns-in_err-index-clause-phrase
replacement-returns-in_err-index-clause-phrase t c = let p = err_from_is_err_and c.from_residual-in_err-index.result c.from_residual-in_err-index.ensures.1 in rw (p.1, p.2) (replace_index c.args.place (lexemes_of c.args.tokens.now) _ _ c.in_err-index.field-0.0 c.in_ok-open.ensures.token c.in_err-index.ensures.phrase)

pub replacement-returns-in_err-_close-clause-phrase : goal.replacement-returns-in_err-_close-clause-phrase
replacement-returns-in_err-_close-clause-phrase t c = let p = err_from_is_err_and c.from_residual-in_err-_close.result c.from_residual-in_err-_close.ensures.1 in rw (p.1, p.2) (replace_halts c.args.place (lexemes_of c.args.tokens.now) c.in_err-_close.field-0.0 (stop_right (token_read c.in_ok-open.ensures.token) (stop_right c.in_ok-index.ensures.phrase.1 (stop_left (token_halts (text (codes "]")) _ _ c.in_err-_close.ensures.token)))))

pub replacement-returns-in_err-_sign-clause-phrase : goal.replacement-returns-in_err-_sign-clause-phrase
replacement-returns-in_err-_sign-clause-phrase t c = let p = err_from_is_err_and c.from_residual-in_err-_sign.result c.from_residual-in_err-_sign.ensures.1 in rw (p.1, p.2) (replace_halts c.args.place (lexemes_of c.args.tokens.now) c.in_err-_sign.field-0.0 (stop_right (token_read c.in_ok-open.ensures.token) (stop_right c.in_ok-index.ensures.phrase.1 (stop_right (token_read c.in_ok-_close.ensures.token) (stop_left (token_halts (text (codes "=")) _ _ c.in_err-_sign.ensures.token))))))

pub replacement-returns-in_err-value-clause-phrase : goal.replacement-returns-in_err-value-clause-phrase
replacement-returns-in_err-value-clause-phrase t c = let p = err_from_is_err_and c.from_residual-in_err-value.result c.from_residual-in_err-value.ensures.1 in rw (p.1, p.2) (replace_halts c.args.place (lexemes_of c.args.tokens.now) c.in_err-value.field-0.0 (stop_right (token_read c.in_ok-open.ensures.token) (stop_right c.in_ok-index.ensures.phrase.1 (stop_right (token_read c.in_ok-_close.ensures.token) (stop_right (token_read c.in_ok-_sign.ensures.token) (stop_ref c.in_err-value.ensures.phrase))))))

pub replacement-returns-in_err-target-clause-phrase : goal.replacement-returns-in_err-target-clause-phrase
replacement-returns-in_err-target-clause-phrase t c = let p = err_from_is_err_and c.from_residual-in_err-target.result c.from_residual-in_err-target.ensures.1 in rw (p.1, p.2) (memory_so c.in_err-target.field-0.0 c.in_err-target.ensures.memory)

pub replacement-returns-in_err-index-2-clause-phrase : goal.replacement-returns-in_err-index-2-clause-phrase
replacement-returns-in_err-index-2-clause-phrase t c = let p = err_from_is_err_and c.from_residual-in_err-index-2.result c.from_residual-in_err-index-2.ensures.1 in rw (p.1, p.2) (memory_so c.in_err-index-2.field-0.0 c.in_err-index-2.ensures.memory)

pub replacement-returns-clause-phrase : goal.replacement-returns-clause-phrase
replacement-returns-clause-phrase t c = replace_read c.args.place (lexeme c.args.token) c.in_ok-target.target c.in_ok-index.index c.in_ok-index-2.index c.in_ok-value.value _ _ c.in_ok-open.ensures.token c.in_ok-index.ensures.phrase.1 c.in_ok-index.ensures.phrase.2 c.in_ok-_close.ensures.token c.in_ok-_sign.ensures.token c.in_ok-value.ensures.phrase c.in_ok-target.ensures.target c.in_ok-index-2.ensures.tree c.in_ok-index-2.ensures.one c.in_ok-index-2.ensures.several c.replace.ensures.tree c.replace.ensures.height

pub compound-returns-in_default-clause-phrase : goal.compound-returns-in_default-clause-phrase
compound-returns-in_default-clause-phrase t c = stop_left (operator_halts (codes "+=", Add) ((codes "-=", Sub) ∷ (codes "*=", Mul) ∷ (codes "/=", Div) ∷ (codes "%=", Rem) ∷ []) (lexemes_of c.args.tokens.now) c.args.tokens refl c.in_default.ensures.token)

pub compound-returns-in_err-value-clause-phrase : goal.compound-returns-in_err-value-clause-phrase
compound-returns-in_err-value-clause-phrase t c = let p = err_from_is_err_and c.from_residual.result c.from_residual.ensures.1 in rw (p.1, p.2) (stop_right (operator_found (codes "+=", Add) ((codes "-=", Sub) ∷ (codes "*=", Mul) ∷ (codes "/=", Div) ∷ (codes "%=", Rem) ∷ []) c.in-Some.ensures.token.0 c.in-Some.ensures.token.1.1).reads (stop_ref c.in_err-value.ensures.phrase))

pub compound-returns-in_err-update-clause-phrase : goal.compound-returns-in_err-update-clause-phrase
compound-returns-in_err-update-clause-phrase t c = let p = err_from_is_err_and c.from_residual-in_err-update.result c.from_residual-in_err-update.ensures.1 in rw (p.1, p.2) (memory_halts c.in_err-update.field-0.0 c.in_err-update.ensures.memory)

pub compound-returns-clause-phrase : goal.compound-returns-clause-phrase
compound-returns-clause-phrase t c = compound_read c.args.place (lexeme c.args.token) c.in-Some.op c.in-Some.site c.in_ok-value.value _ c.in-Some.ensures.token.1.0 c.in-Some.ensures.token.0 c.in-Some.ensures.token.1.1 c.in_ok-value.ensures.phrase c.in_ok-update.ensures.tree c.in_ok-update.ensures.height

pub assigned-returns-then-starts_with_any-clause-phrase : goal.assigned-returns-then-starts_with_any-clause-phrase
assigned-returns-then-starts_with_any-clause-phrase t c = rest_several c.args.place c.inside-inner.result (lexeme c.args.token) (lexemes_of c.args.tokens.now) c.several.result (sym c.starts_with_any.ensures ∙ c.if-starts_with_any.true) c.inside-inner.ensures.checked (deeper c.args.place.depth c.inside-inner.result.depth c.inside-inner.ensures.depth) c.several.ensures.phrase

pub assigned-returns-then-starts_with-clause-phrase : goal.assigned-returns-then-starts_with-clause-phrase
assigned-returns-then-starts_with-clause-phrase t c = rest_replace c.args.place c.inside-inner.result (lexeme c.args.token) (lexemes_of c.args.tokens.now) c.replacement.result (sym c.starts_with.ensures ∙ c.if-starts_with.true) c.inside-inner.ensures.checked (deeper c.args.place.depth c.inside-inner.result.depth c.inside-inner.ensures.depth) c.replacement.ensures.phrase

pub assigned-returns-then-has_no_room-clause-phrase : goal.assigned-returns-then-has_no_room-clause-phrase
assigned-returns-then-has_no_room-clause-phrase t c = rest_high c.args.place (lexeme c.args.token) c.args.tokens ((sym c.starts_with_any.ensures ∙ c.if-starts_with_any.false), ((sym c.starts_with.ensures ∙ c.if-starts_with.false), tt)) (c.has_no_room.ensures.full c.if-has_no_room.true)

pub assigned-returns-then-starts_with_any-2-clause-phrase : goal.assigned-returns-then-starts_with_any-2-clause-phrase
assigned-returns-then-starts_with_any-2-clause-phrase t c = rest_compound c.args.place c.inside-inner.result c.inside.result (lexeme c.args.token) (lexemes_of c.args.tokens.now) c.compound.result (sym c.starts_with_any-else-has_no_room.ensures ∙ c.if-starts_with_any-2.true) c.inside-inner.ensures.checked c.inside.ensures.checked (deeper c.args.place.depth c.inside-inner.result.depth c.inside-inner.ensures.depth) (deeper c.inside-inner.result.depth c.inside.result.depth c.inside.ensures.depth) c.compound.ensures.phrase

pub assigned-returns-else-starts_with_any-2-clause-phrase : goal.assigned-returns-else-starts_with_any-2-clause-phrase
assigned-returns-else-starts_with_any-2-clause-phrase t c = rest_last c.args.place (lexeme c.args.token) (lexemes_of c.args.tokens.now) c.step.result ((sym c.starts_with_any.ensures ∙ c.if-starts_with_any.false), ((sym c.starts_with.ensures ∙ c.if-starts_with.false), ((sym c.starts_with_any-else-has_no_room.ensures ∙ c.if-starts_with_any-2.false), tt))) c.step.ensures.phrase

pub assign-returns-in_err-token-clause-phrase : goal.assign-returns-in_err-token-clause-phrase
assign-returns-in_err-token-clause-phrase t c = let p = err_from_is_err_and c.from_residual.result c.from_residual.ensures.1 in rw (p.1, p.2) (stops (stop_left (token_halts name _ _ c.in_err-token.ensures.token)))

pub assign-returns-in_err-node-clause-phrase : goal.assign-returns-in_err-node-clause-phrase
assign-returns-in_err-node-clause-phrase t c = let p = err_from_is_err_and c.from_residual-in_err-node.result c.from_residual-in_err-node.ensures.1 in rw (p.1, p.2) (assign_halts c.args.place (lexemes_of c.args.tokens.now) _ _ c.in_err-node.field-0.0 c.in_ok-token.ensures.token c.in_err-node.ensures.phrase)

pub assign-returns-clause-phrase : goal.assign-returns-clause-phrase
assign-returns-clause-phrase t c = assign_kept c.args.place (lexeme c.in_ok-token.token) c.in_ok-node.node c.in_ok-node.rest.now _ c.kept.result c.in_ok-token.ensures.token c.in_ok-node.ensures.phrase.1 c.in_ok-node.ensures.phrase.2 c.kept.ensures

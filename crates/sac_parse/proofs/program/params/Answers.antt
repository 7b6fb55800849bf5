use Rattle.std.proofs.Common.{◌++◌, [], ◌∷◌, inl, inr, sym, ap, ◌∙◌, subst, arith}
use Rattle.sac_ast.specs.Shape.{ref}
use Rattle.sac_phrases.specs.Contract.{lexemes_of}
use Rattle.sac_ast.specs.Grammar.{opt, listed, param}
use Rattle.sac_grammar.proofs.Parsing.{read_first, read_none, stop_left, stop_first}
use Rattle.sac_parse.specs.Leaves.{AreParams}
use Rattle.sac_parse.proofs.Steps.{leaf_error, SoFar, list_start, list_more, list_end, list_stop}
use Rattle.sac_parse.proofs.program.params.Goals as goal

pub returns-then-not-starts_with_any-clause-phrase : goal.returns-then-not-starts_with_any-clause-phrase
returns-then-not-starts_with_any-clause-phrase c = (inr tt, read_none (sym c.starts_with_any.ensures ∙ c.if-not-starts_with_any.true), c.new-found.ensures.items)

pub returns-in_err-first-clause-phrase : goal.returns-in_err-first-clause-phrase
returns-in_err-first-clause-phrase c = leaf_error (opt (listed (ref param))) AreParams (lexemes_of c.args.tokens.now) c.from_residual.result c.in_err-first.field-0.0 c.from_residual.ensures.1 (λ k d. stop_first (sym c.starts_with_any.ensures ∙ c.if-not-starts_with_any.false) (stop_left (c.in_err-first.ensures.phrase k d)))

pub loop-comma-init : goal.loop-comma-init
loop-comma-init c =
    let p = c.in_ok-first.ensures.phrase in
    let found_is = c.in_ok-push.ensures.items ∙ ap (λ l. l ++ (c.in_ok-first.first ∷ [])) c.new-found.ensures.items ∙ ap (λ x. x ∷ []) p.2 in
    record {
      list = subst (λ vs. SoFar (ref param) (lexemes_of c.args.tokens.now) vs (lexemes_of c.in_ok-first.rest.now)) (sym found_is) (list_start p.1);
      shorter = c.in_ok-first.ensures.shorter;
    }

pub returns-in_err-next-clause-phrase : goal.returns-in_err-next-clause-phrase
returns-in_err-next-clause-phrase c = leaf_error (opt (listed (ref param))) AreParams (lexemes_of c.args.tokens.now) c.from_residual-in_err-next.result c.in_err-next.field-0.0 c.from_residual-in_err-next.ensures.1 (λ k d. stop_first (sym c.starts_with_any.ensures ∙ c.if-not-starts_with_any.false) (list_stop c.loop-comma.invariant.list c.in-Some.ensures.token (c.in_err-next.ensures.phrase k d)))

pub loop-comma-smaller : goal.loop-comma-smaller
loop-comma-smaller c = let a = c.in_ok-next.ensures.shorter in let b = c.in-Some.ensures.shorter in omega arith

pub loop-comma-preserved : goal.loop-comma-preserved
loop-comma-preserved c =
    let p = c.in_ok-next.ensures.phrase in
    let a = c.in_ok-next.ensures.shorter in
    let b = c.in-Some.ensures.shorter in
    let d = c.loop-comma.invariant.shorter in
    let found_is = c.in_ok-push-2.ensures.items ∙ ap (λ x. c.loop-comma.found.items ++ (x ∷ [])) p.2 in
    record {
      list = subst (λ vs. SoFar (ref param) (lexemes_of c.args.tokens.now) vs (lexemes_of c.in_ok-next.after.now)) (sym found_is) (list_more c.loop-comma.invariant.list c.in-Some.ensures.token p.1);
      shorter = omega arith;
    }

pub returns-clause-phrase : goal.returns-clause-phrase
returns-clause-phrase c =
    let l = c.loop-comma.invariant.list in
    (inl (l.head, l.tail), read_first (sym c.starts_with_any.ensures ∙ c.if-not-starts_with_any.false) (list_end l c.in_default.ensures.token), l.same)

pub returns-clause-shorter : goal.returns-clause-shorter
returns-clause-shorter c = let d = c.loop-comma.invariant.shorter in omega arith

use Rattle.std.proofs.Common.{[], ◌∷◌, ◌++◌, ap, ◌∙◌, length, arith}
use Rattle.std.proofs.lemmas.Result.{err_from_is_err_and}
use Rattle.sac_ast.specs.Shape.{name}
use Rattle.sac_phrases.specs.Contract.{lexeme, lexemes_of}
use Rattle.sac_phrases.proofs.Steps.{less_two, token_halts}
use Rattle.sac_phrases.proofs.LeafSteps.{names_begin, names_next, names_whole, names_halts}
use Rattle.sac_phrases.proofs.leaf.targets.Goals as goal

pub loop-comma-init : goal.loop-comma-init
loop-comma-init c = record { shorter = omega (arith, ap length c.split_at.ensures.back); so_far = names_begin (lexeme c.args.first) (lexemes_of c.args.tokens.now) _ c.in_ok-target.field-0 _ c.in_ok-target.ensures.target (c.in_ok-push.ensures.items ∙ ap (λ l. l ++ (c.in_ok-target.field-0 ∷ [])) c.new-found.ensures.items) (ap lexemes_of c.split_at.ensures.back) }

pub returns-in_err-token-clause-phrase : goal.returns-in_err-token-clause-phrase
returns-in_err-token-clause-phrase c = let p = err_from_is_err_and c.from_residual-in_err-token.result c.from_residual-in_err-token.ensures.1 in rw (p.1, p.2) (λ checked D. names_halts (lexeme c.args.first) _ _ _ _ _ c.loop-comma.invariant.so_far c.in-Some.ensures.token (token_halts name _ _ c.in_err-token.ensures.token))

pub loop-comma-preserved : goal.loop-comma-preserved
loop-comma-preserved c = record { shorter = less_two _ _ _ _ c.in_ok-token.ensures.shorter c.in-Some.ensures.shorter c.loop-comma.invariant.shorter; so_far = names_next (lexeme c.args.first) (lexemes_of c.args.tokens.now) c.loop-comma.found.items _ _ _ (lexeme c.in-Some._comma) (lexeme c.in_ok-token.token) c.in_ok-target-2.field-0 _ c.loop-comma.invariant.so_far c.in-Some.ensures.token c.in_ok-token.ensures.token c.in_ok-target-2.ensures.target c.in_ok-push-2.ensures.items }

pub returns-clause-phrase : goal.returns-clause-phrase
returns-clause-phrase c = names_whole (lexeme c.args.first) (lexemes_of c.args.tokens.now) c.loop-comma.found _ c.loop-comma.invariant.so_far c.in_default.ensures.token

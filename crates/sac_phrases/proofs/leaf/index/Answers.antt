use Rattle.std.proofs.Common.{sym, ◌∙◌, codes}
use Rattle.std.proofs.lemmas.Result.{err_from_is_err_and}
use Rattle.sac_ast.specs.Shape.{text, name}
use Rattle.sac_grammar.proofs.Parsing.{read_then, stops, stop_ref, stop_left, stop_right, stop_second}
use Rattle.sac_phrases.specs.Contract.{lexeme, lexemes_of}
use Rattle.sac_phrases.proofs.Steps.{token_read, token_halts}
use Rattle.sac_phrases.proofs.LeafSteps.{named_read, names_read}
use Rattle.sac_phrases.proofs.leaf.index.Goals as goal

pub returns-then-starts_name-clause-phrase : goal.returns-then-starts_name-clause-phrase
returns-then-starts_name-clause-phrase c = named_read (lexemes_of c.args.tokens.now) _ (lexeme c.in_ok-token.token) c.in_ok-target.field-0 c.in_ok-token.ensures.token c.in_ok-target.ensures.target

pub returns-in_err-token-2-clause-phrase : goal.returns-in_err-token-2-clause-phrase
returns-in_err-token-2-clause-phrase c = let p = err_from_is_err_and c.from_residual-in_err-token-2.result c.from_residual-in_err-token-2.ensures.1 in rw (p.1, p.2) (λ checked D. stop_ref (stops (stop_second (sym c.starts_name.ensures ∙ c.if-starts_name.false) (stop_right (token_read c.in_ok-_open.ensures.token) (stop_left (stop_left (token_halts name _ _ c.in_err-token-2.ensures.token)))))))

pub returns-in_err-names-clause-phrase : goal.returns-in_err-names-clause-phrase
returns-in_err-names-clause-phrase c = let p = err_from_is_err_and c.from_residual-in_err-names.result c.from_residual-in_err-names.ensures.1 in rw (p.1, p.2) (λ checked D. stop_ref (stops (stop_second (sym c.starts_name.ensures ∙ c.if-starts_name.false) (stop_right (token_read c.in_ok-_open.ensures.token) (stop_left (stop_right (token_read c.in_ok-token-2.ensures.token) (c.in_err-names.ensures.phrase _ _)))))))

pub returns-in_err-_close-clause-phrase : goal.returns-in_err-_close-clause-phrase
returns-in_err-_close-clause-phrase c = let p = err_from_is_err_and c.from_residual-in_err-_close.result c.from_residual-in_err-_close.ensures.1 in rw (p.1, p.2) (λ checked D. stop_ref (stops (stop_second (sym c.starts_name.ensures ∙ c.if-starts_name.false) (stop_right (token_read c.in_ok-_open.ensures.token) (stop_right (read_then (token_read c.in_ok-token-2.ensures.token) c.in_ok-names.ensures.phrase.1) (token_halts (text (codes "]")) _ _ c.in_err-_close.ensures.token))))))

pub returns-clause-phrase : goal.returns-clause-phrase
returns-clause-phrase c = names_read (lexemes_of c.args.tokens.now) c.in_ok-names.names _ (sym c.starts_name.ensures ∙ c.if-starts_name.false) c.in_ok-_open.ensures.token c.in_ok-token-2.ensures.token c.in_ok-names.ensures.phrase.1 c.in_ok-names.ensures.phrase.2 c.in_ok-_close.ensures.token

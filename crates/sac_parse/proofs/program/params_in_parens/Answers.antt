use Rattle.std.proofs.Common.{codes}
use Rattle.sac_ast.specs.Shape.{ref, text}
use Rattle.sac_phrases.specs.Contract.{lexeme, lexemes_of}
use Rattle.sac_ast.specs.Grammar.{opt, listed, parens, param}
use Rattle.sac_grammar.proofs.Parsing.{read_then, stop_left, stop_right}
use Rattle.sac_parse.specs.Leaves.{AreParamsInParens}
use Rattle.sac_parse.proofs.Steps.{token_read, token_halts, leaf_error}
use Rattle.sac_parse.proofs.program.params_in_parens.Goals as goal

pub returns-in_err-params-clause-phrase : goal.returns-in_err-params-clause-phrase
returns-in_err-params-clause-phrase c = leaf_error (parens (opt (listed (ref param)))) AreParamsInParens (lexemes_of c.args.tokens.now) c.from_residual-in_err-params.result c.in_err-params.field-0.0 c.from_residual-in_err-params.ensures.1 (λ k d. stop_right (token_read (text (codes "(")) c.in_ok-_open.ensures.token) (stop_left (c.in_err-params.ensures.phrase k d)))

pub returns-in_err-_close-clause-phrase : goal.returns-in_err-_close-clause-phrase
returns-in_err-_close-clause-phrase c = leaf_error (parens (opt (listed (ref param)))) AreParamsInParens (lexemes_of c.args.tokens.now) c.from_residual-in_err-_close.result c.in_err-_close.field-0.0 c.from_residual-in_err-_close.ensures.1 (λ k d. stop_right (token_read (text (codes "(")) c.in_ok-_open.ensures.token) (stop_right c.in_ok-params.ensures.phrase.1 (token_halts (text (codes ")")) (lexemes_of c.in_ok-params.rest.now) c.in_err-_close.field-0.0 c.in_err-_close.ensures.token)))

pub returns-clause-phrase : goal.returns-clause-phrase
returns-clause-phrase c =
    let p = c.in_ok-params.ensures.phrase in
    ((lexeme c.in_ok-_open._open, (p.0, lexeme c.in_ok-_close._close)), read_then (token_read (text (codes "(")) c.in_ok-_open.ensures.token) (read_then p.1 (token_read (text (codes ")")) c.in_ok-_close.ensures.token)), p.2)

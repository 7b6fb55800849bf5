use Rattle.sac_ast.specs.Shape.{ref, name}
use Rattle.sac_phrases.specs.Contract.{lexeme, lexemes_of}
use Rattle.sac_ast.specs.Grammar.{param, action}
use Rattle.sac_grammar.proofs.Parsing.{found, read_ref, read_then, stop_left, stop_right}
use Rattle.sac_parse.specs.Leaves.{IsParam}
use Rattle.sac_parse.proofs.Steps.{token_read, token_halts, ref_stop, leaf_error}
use Rattle.sac_parse.proofs.program.param.Goals as goal

pub returns-in_err-ty-clause-phrase : goal.returns-in_err-ty-clause-phrase
returns-in_err-ty-clause-phrase c = leaf_error (ref param) IsParam (lexemes_of c.args.tokens.now) c.from_residual.result c.in_err-ty.field-0.0 c.from_residual.ensures.1 (λ k d. ref_stop (stop_left (c.in_err-ty.ensures.phrase k _)))

pub returns-in_err-token-clause-phrase : goal.returns-in_err-token-clause-phrase
returns-in_err-token-clause-phrase c = leaf_error (ref param) IsParam (lexemes_of c.args.tokens.now) c.from_residual-in_err-token.result c.in_err-token.field-0.0 c.from_residual-in_err-token.ensures.1 (λ k d. ref_stop (stop_right c.in_ok-ty.ensures.phrase.1 (token_halts name (lexemes_of c.in_ok-ty.rest.now) c.in_err-token.field-0.0 c.in_err-token.ensures.token)))

pub returns-clause-phrase : goal.returns-clause-phrase
returns-clause-phrase c =
    let p = c.in_ok-ty.ensures.phrase in
    (action param (p.0, lexeme c.in_ok-token.token), read_ref (found {k = param} (read_then p.1 (token_read name c.in_ok-token.ensures.token))), λ i. record { ty = p.2 i; name = c.in_ok-name.ensures.name i; site = c.in_ok-token.token.site })

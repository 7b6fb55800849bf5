use Rattle.std.proofs.Common.{codes}
use Rattle.sac_ast.specs.Shape.{text, name}
use Rattle.sac_phrases.specs.Contract.{lexemes_of}
use Rattle.sac_ast.specs.Grammar.{function}
use Rattle.sac_grammar.proofs.Parsing.{read_then, stop_left, stop_right, stops}
use Rattle.sac_parse.proofs.Steps.{token_read, token_halts}
use Rattle.sac_parse.proofs.Functions.{function_error, whole_function, low_function}
use Rattle.sac_parse.proofs.program.function.Goals as goal

pub returns-in_err-results-clause-phrase : goal.returns-in_err-results-clause-phrase
returns-in_err-results-clause-phrase c = function_error c.args.checked (lexemes_of c.args.tokens.now) c.from_residual.result c.in_err-results.field-0.0 c.from_residual.ensures.1 (stops {k = function} (stop_right c.inline-inline.ensures.phrase.1 (stop_left (c.in_err-results.ensures.phrase c.args.checked _))))

pub returns-in_err-token-clause-phrase : goal.returns-in_err-token-clause-phrase
returns-in_err-token-clause-phrase c = function_error c.args.checked (lexemes_of c.args.tokens.now) c.from_residual-in_err-token.result c.in_err-token.field-0.0 c.from_residual-in_err-token.ensures.1 (stops {k = function} (stop_right c.inline-inline.ensures.phrase.1 (stop_right c.in_ok-results.ensures.phrase.1 (stop_left (token_halts name (lexemes_of c.in_ok-results.rest.now) c.in_err-token.field-0.0 c.in_err-token.ensures.token)))))

pub returns-in_err-params-clause-phrase : goal.returns-in_err-params-clause-phrase
returns-in_err-params-clause-phrase c = function_error c.args.checked (lexemes_of c.args.tokens.now) c.from_residual-in_err-params.result c.in_err-params.field-0.0 c.from_residual-in_err-params.ensures.1 (stops {k = function} (stop_right c.inline-inline.ensures.phrase.1 (stop_right c.in_ok-results.ensures.phrase.1 (stop_right (token_read name c.in_ok-token.ensures.token) (stop_left (c.in_err-params.ensures.phrase c.args.checked _))))))

pub returns-in_err-_open-clause-phrase : goal.returns-in_err-_open-clause-phrase
returns-in_err-_open-clause-phrase c = function_error c.args.checked (lexemes_of c.args.tokens.now) c.from_residual-in_err-_open.result c.in_err-_open.field-0.0 c.from_residual-in_err-_open.ensures.1 (stops {k = function} (stop_right c.inline-inline.ensures.phrase.1 (stop_right c.in_ok-results.ensures.phrase.1 (stop_right (token_read name c.in_ok-token.ensures.token) (stop_right c.in_ok-params.ensures.phrase.1 (stop_left (token_halts (text (codes "{")) (lexemes_of c.in_ok-params.rest.now) c.in_err-_open.field-0.0 c.in_err-_open.ensures.token)))))))

pub returns-in_err-body-clause-phrase : goal.returns-in_err-body-clause-phrase
returns-in_err-body-clause-phrase c = function_error c.args.checked (lexemes_of c.args.tokens.now) c.from_residual-in_err-body.result c.in_err-body.field-0.0 c.from_residual-in_err-body.ensures.1 (stops {k = function} (stop_right c.inline-inline.ensures.phrase.1 (stop_right c.in_ok-results.ensures.phrase.1 (stop_right (token_read name c.in_ok-token.ensures.token) (stop_right c.in_ok-params.ensures.phrase.1 (stop_right (token_read (text (codes "{")) c.in_ok-_open.ensures.token) (stop_left c.in_err-body.ensures.phrase)))))))

pub returns-in_err-end-clause-phrase : goal.returns-in_err-end-clause-phrase
returns-in_err-end-clause-phrase c = function_error c.args.checked (lexemes_of c.args.tokens.now) c.from_residual-in_err-end.result c.in_err-end.field-0.0 c.from_residual-in_err-end.ensures.1 (stops {k = function} (stop_right c.inline-inline.ensures.phrase.1 (stop_right c.in_ok-results.ensures.phrase.1 (stop_right (token_read name c.in_ok-token.ensures.token) (stop_right c.in_ok-params.ensures.phrase.1 (stop_right (token_read (text (codes "{")) c.in_ok-_open.ensures.token) (stop_right c.in_ok-body.ensures.phrase.1 (c.in_err-end.ensures.phrase))))))))

pub returns-clause-phrase : goal.returns-clause-phrase
returns-clause-phrase c =
    let i = c.inline-inline.ensures.phrase in
    let t = c.in_ok-results.ensures.phrase in
    let p = c.in_ok-params.ensures.phrase in
    let b = c.in_ok-body.ensures.phrase in
    let e = c.in_ok-end.ensures.phrase in (
      whole_function c.in_ok-results.results c.in_ok-params.params c.in_ok-body.body.tree c.in_ok-end.end.values.tree (read_then c.inline-inline.ensures.phrase.1 (read_then c.in_ok-results.ensures.phrase.1 (read_then (token_read name c.in_ok-token.ensures.token) (read_then c.in_ok-params.ensures.phrase.1 (read_then (token_read (text (codes "{")) c.in_ok-_open.ensures.token) (read_then c.in_ok-body.ensures.phrase.1 c.in_ok-end.ensures.phrase.1)))))) i.2 t.2 c.in_ok-name.ensures.name p.2 b.2.trees e.2.trees e.2.site,
      λ checked. low_function c.in_ok-body.body.tree c.in_ok-end.end.values.tree b.2.trees e.2.trees (b.2.low checked).1 (e.2.low checked).1,
    )

use Rattle.std.proofs.Common.{refl, codes}
use Rattle.sac_ast.specs.Shape.{text}
use Rattle.sac_phrases.specs.Contract.{lexeme, lexemes_of}
use Rattle.sac_grammar.proofs.Parsing.{read_then, stop_left, stop_right}
use Rattle.sac_parse.proofs.Steps.{token_read, token_halts, part_error}
use Rattle.sac_parse.specs.Programs.{Ending, IsReturned}
use Rattle.sac_parse.proofs.program.ending.Goals as goal

pub returns-in_err-values-clause-phrase : goal.returns-in_err-values-clause-phrase
returns-in_err-values-clause-phrase c = part_error c.args.place Ending (IsReturned c.args.place) (lexemes_of c.args.tokens.now) c.from_residual-in_err-values.result c.in_err-values.field-0.0 c.from_residual-in_err-values.ensures.1 (stop_right (token_read (text (codes "return")) c.in_ok-word.ensures.token) (stop_left (stop_right (token_read (text (codes "(")) c.in_ok-_open.ensures.token) (stop_left c.in_err-values.ensures.phrase))))

pub returns-in_err-_close-clause-phrase : goal.returns-in_err-_close-clause-phrase
returns-in_err-_close-clause-phrase c = part_error c.args.place Ending (IsReturned c.args.place) (lexemes_of c.args.tokens.now) c.from_residual-in_err-_close.result c.in_err-_close.field-0.0 c.from_residual-in_err-_close.ensures.1 (stop_right (token_read (text (codes "return")) c.in_ok-word.ensures.token) (stop_left (stop_right (token_read (text (codes "(")) c.in_ok-_open.ensures.token) (stop_right c.in_ok-values.ensures.phrase.1 (token_halts (text (codes ")")) (lexemes_of c.in_ok-values.rest.now) c.in_err-_close.field-0.0 c.in_err-_close.ensures.token)))))

pub returns-in_err-_end-clause-phrase : goal.returns-in_err-_end-clause-phrase
returns-in_err-_end-clause-phrase c = part_error c.args.place Ending (IsReturned c.args.place) (lexemes_of c.args.tokens.now) c.from_residual-in_err-_end.result c.in_err-_end.field-0.0 c.from_residual-in_err-_end.ensures.1 (stop_right (token_read (text (codes "return")) c.in_ok-word.ensures.token) (stop_right (read_then (token_read (text (codes "(")) c.in_ok-_open.ensures.token) (read_then c.in_ok-values.ensures.phrase.1 (token_read (text (codes ")")) c.in_ok-_close.ensures.token))) (stop_left (token_halts (text (codes ";")) (lexemes_of c.in_ok-_close.rest.now) c.in_err-_end.field-0.0 c.in_err-_end.ensures.token))))

pub returns-in_err-_close-2-clause-phrase : goal.returns-in_err-_close-2-clause-phrase
returns-in_err-_close-2-clause-phrase c = part_error c.args.place Ending (IsReturned c.args.place) (lexemes_of c.args.tokens.now) c.from_residual-in_err-_close-2.result c.in_err-_close-2.field-0.0 c.from_residual-in_err-_close-2.ensures.1 (stop_right (token_read (text (codes "return")) c.in_ok-word.ensures.token) (stop_right (read_then (token_read (text (codes "(")) c.in_ok-_open.ensures.token) (read_then c.in_ok-values.ensures.phrase.1 (token_read (text (codes ")")) c.in_ok-_close.ensures.token))) (stop_right (token_read (text (codes ";")) c.in_ok-_end.ensures.token) (token_halts (text (codes "}")) (lexemes_of c.in_ok-_end.rest.now) c.in_err-_close-2.field-0.0 c.in_err-_close-2.ensures.token))))

pub returns-clause-phrase : goal.returns-clause-phrase
returns-clause-phrase c =
    let p = c.in_ok-values.ensures.phrase in (
      (lexeme c.in_ok-word.word, ((lexeme c.in_ok-_open._open, (p.0, lexeme c.in_ok-_close._close)), (lexeme c.in_ok-_end._end, lexeme c.in_ok-_close-2._close))),
      read_then (token_read (text (codes "return")) c.in_ok-word.ensures.token) (read_then (read_then (token_read (text (codes "(")) c.in_ok-_open.ensures.token) (read_then c.in_ok-values.ensures.phrase.1 (token_read (text (codes ")")) c.in_ok-_close.ensures.token))) (read_then (token_read (text (codes ";")) c.in_ok-_end.ensures.token) (token_read (text (codes "}")) c.in_ok-_close-2.ensures.token))),
      record { trees = p.2.trees; low = p.2.low; site = refl },
    )

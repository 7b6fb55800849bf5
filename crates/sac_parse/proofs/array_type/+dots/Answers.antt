use Rattle.std.proofs.Common.{◌<◌, refl, sym, ap, length, codes, arith}
use Rattle.sac_ast.specs.Shape.{text}
use Rattle.sac_phrases.specs.Contract.{lexemes_of}
use Rattle.sac_ast.specs.Grammar.{sign, up_to}
use Rattle.sac_parse.specs.Leaves.{IsCount}
use Rattle.sac_parse.proofs.Steps.{token_read, token_halts, up_to_none, up_to_one, up_to_more, up_to_stop, up_to_stop_more, leaf_error}
use Rattle.sac_parse.proofs.array_type.+dots.Goals as goal

pub returns-in_err-_dot-clause-phrase : goal.returns-in_err-_dot-clause-phrase
returns-in_err-_dot-clause-phrase t c =
    let ts = lexemes_of c.args.tokens.now in
    leaf_error (up_to c.args.more (sign (codes "."))) (IsCount c.args.more) ts c.from_residual.result c.in_err-_dot.field-0.0 c.from_residual.ensures.1 (λ k d. up_to_stop c.args.more (token_halts (text (codes ".")) ts c.in_err-_dot.field-0.0 c.in_err-_dot.ensures.token))

pub returns-then-more-eq0-clause-phrase : goal.returns-then-more-eq0-clause-phrase
returns-then-more-eq0-clause-phrase t c =
    let u = up_to_none c.args.more c.if-more-eq0.true (token_read (text (codes ".")) c.in_ok-_dot.ensures.token) in
    (u.value, u.reads, sym (ap length u.same))

pub returns-in_default-clause-phrase : goal.returns-in_default-clause-phrase
returns-in_default-clause-phrase t c =
    let u = up_to_one c.args.more (token_read (text (codes ".")) c.in_ok-_dot.ensures.token) c.in_default.ensures.token in
    (u.value, u.reads, sym (ap length u.same))

pub returns-in_err-count-clause-phrase : goal.returns-in_err-count-clause-phrase
returns-in_err-count-clause-phrase t c =
    let lt : 0 < c.args.more = omega arith in
    leaf_error (up_to c.args.more (sign (codes "."))) (IsCount c.args.more) (lexemes_of c.args.tokens.now) c.from_residual-in_err-count.result c.in_err-count.field-0.0 c.from_residual-in_err-count.ensures.1 (λ k d. up_to_stop_more c.args.more lt (token_read (text (codes ".")) c.in_ok-_dot.ensures.token) c.in-Some.ensures.token (c.in_err-count.ensures.phrase k d))

pub returns-clause-phrase : goal.returns-clause-phrase
returns-clause-phrase t c =
    let lt : 0 < c.args.more = omega arith in
    let p = c.in_ok-count.ensures.phrase in
    let u = up_to_more c.args.more lt (token_read (text (codes ".")) c.in_ok-_dot.ensures.token) c.in-Some.ensures.token (record { value = p.0; reads = p.1; same = refl }) in
    let n = ap length u.same in
    let m = p.2 in
    (u.value, u.reads, omega arith)

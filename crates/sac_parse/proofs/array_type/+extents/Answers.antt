use Rattle.std.proofs.Common.{◌≡◌, ◌<◌, ◌++◌, sym, subst, arith, w32, to_z, of_z}
use Rattle.sac_ast.specs.Shape.{term, number}
use Rattle.sac_phrases.specs.Contract.{lexeme, lexemes_of}
use Rattle.sac_ast.specs.Grammar.{up_to}
use Rattle.sac_parse.specs.Leaves.{AreNumbers, numbers_of}
use Rattle.sac_parse.proofs.Steps.{token_read, token_halts, up_to_none, up_to_one, up_to_stop, pushed, more_numbers, leaf_error}
use Rattle.std.proofs.lemmas.Int.{to_z-of_z}
use Rattle.sac_parse.proofs.array_type.+extents.Goals as goal

pub returns-in_err-token-clause-phrase : goal.returns-in_err-token-clause-phrase
returns-in_err-token-clause-phrase t c =
    let ts = lexemes_of c.args.tokens.now in
    leaf_error (up_to c.args.more (term number)) (AreNumbers c.args.found.items c.args.more) ts c.from_residual.result c.in_err-token.field-0.0 c.from_residual.ensures.1 (λ k d. up_to_stop c.args.more (token_halts number ts c.in_err-token.field-0.0 c.in_err-token.ensures.token))

pub returns-then-more-eq0-clause-phrase : goal.returns-then-more-eq0-clause-phrase
returns-then-more-eq0-clause-phrase t c =
    let u = up_to_none c.args.more c.if-more-eq0.true (token_read number c.in_ok-token.ensures.token) in
    (u.value, u.reads, subst (λ l. c.push.new.self.items ≡ c.args.found.items ++ numbers_of l) (sym u.same) (pushed c.args.found.items c.push.new.self.items (to_z w32 (of_z w32 c.number.result)) c.number.result (lexeme c.in_ok-token.token) c.in_ok-push.ensures.items (to_z-of_z w32 c.number.result (record { sfits = c.number.type_inv })) c.number.ensures))

pub returns-in_default-clause-phrase : goal.returns-in_default-clause-phrase
returns-in_default-clause-phrase t c =
    let u = up_to_one c.args.more (token_read number c.in_ok-token.ensures.token) c.in_default.ensures.token in
    (u.value, u.reads, subst (λ l. c.push.new.self.items ≡ c.args.found.items ++ numbers_of l) (sym u.same) (pushed c.args.found.items c.push.new.self.items (to_z w32 (of_z w32 c.number.result)) c.number.result (lexeme c.in_ok-token.token) c.in_ok-push.ensures.items (to_z-of_z w32 c.number.result (record { sfits = c.number.type_inv })) c.number.ensures))

pub returns-clause-phrase : goal.returns-clause-phrase
returns-clause-phrase t c =
    let lt : 0 < c.args.more = omega arith in
    more_numbers c.args.more c.args.found.items c.push.new.self.items (lexemes_of c.args.tokens.now) (lexemes_of c.in_ok-token.rest.now) (lexemes_of c.in-Some.rest.now) (lexeme c.in_ok-token.token) (lexeme c.in-Some._comma) c.extents.result lt (token_read number c.in_ok-token.ensures.token) c.in-Some.ensures.token (pushed c.args.found.items c.push.new.self.items (to_z w32 (of_z w32 c.number.result)) c.number.result (lexeme c.in_ok-token.token) c.in_ok-push.ensures.items (to_z-of_z w32 c.number.result (record { sfits = c.number.type_inv })) c.number.ensures) c.extents.ensures.phrase

use Rattle.std.proofs.Common.{◌≡◌, inl, inr, refl, ◌∙◌, codes}
use Rattle.sac_ast.specs.Shape.{ref, text}
use Rattle.sac_phrases.specs.Contract.{lexeme, lexemes_of}
use Rattle.sac_ast.specs.Grammar.{opt, type', action, Extents}
use Rattle.sac_grammar.proofs.Parsing.{found, read_ref, read_then, read_first, read_none, stop_left, stop_right, stop_first}
use Rattle.sac_parse.specs.Leaves.{IsType}
use Rattle.sac_parse.proofs.Steps.{token_read, starts_there, token_halts, ref_stop, leaf_error}
use Rattle.sac_base.specs.declared.types.Part.TheVariants.{Known}
use Rattle.sac_ast.specs.Texts.{Lexeme}
use Rattle.sac_ast.specs.Grammar.{V, brackets_part}
use Rattle.sac_parse.specs.Leaves.{inner_part}
use Rattle.sac_parse.proofs.array_type.array_type.Goals as goal

in_brackets : (l r : Lexeme) (v : V (opt Extents)) → inner_part v ≡ brackets_part (inl (l, (v, r)))
in_brackets l r (inl v) = refl
in_brackets l r (inr u) = refl

pub returns-in_err-base-clause-phrase : goal.returns-in_err-base-clause-phrase
returns-in_err-base-clause-phrase c = leaf_error (ref type') IsType (lexemes_of c.args.tokens.now) c.from_residual.result c.in_err-base.field-0.0 c.from_residual.ensures.1 (λ k d. ref_stop (stop_left (c.in_err-base.ensures.phrase k _)))

pub returns-in_default-clause-phrase : goal.returns-in_default-clause-phrase
returns-in_default-clause-phrase c =
    let p = c.in_ok-base.ensures.phrase in
    (action type' (p.0, inr tt), read_ref (found {k = type'} (read_then p.1 (read_none c.in_default.ensures.token))), λ i. record { base = p.2 i; part = Known (c.empty.ensures i) })

pub returns-in_err-part-clause-phrase : goal.returns-in_err-part-clause-phrase
returns-in_err-part-clause-phrase c =
    let open_sign = text (codes "[") in
    leaf_error (ref type') IsType (lexemes_of c.args.tokens.now) c.from_residual-in_err-part.result c.in_err-part.field-0.0 c.from_residual-in_err-part.ensures.1 (λ k d. ref_stop (stop_right c.in_ok-base.ensures.phrase.1 (stop_first (starts_there open_sign c.in-Some.ensures.token) (stop_right (token_read open_sign c.in-Some.ensures.token) (stop_left (c.in_err-part.ensures.phrase k _))))))

pub returns-in_err-_close-clause-phrase : goal.returns-in_err-_close-clause-phrase
returns-in_err-_close-clause-phrase c =
    let open_sign = text (codes "[") in
    leaf_error (ref type') IsType (lexemes_of c.args.tokens.now) c.from_residual-in_err-_close.result c.in_err-_close.field-0.0 c.from_residual-in_err-_close.ensures.1 (λ k d. ref_stop (stop_right c.in_ok-base.ensures.phrase.1 (stop_first (starts_there open_sign c.in-Some.ensures.token) (stop_right (token_read open_sign c.in-Some.ensures.token) (stop_right c.in_ok-part.ensures.phrase.1 (token_halts (text (codes "]")) (lexemes_of c.in_ok-part.rest.now) c.in_err-_close.field-0.0 c.in_err-_close.ensures.token))))))

pub returns-clause-phrase : goal.returns-clause-phrase
returns-clause-phrase c =
    let open_sign = text (codes "[") in
    let p = c.in_ok-base.ensures.phrase in
    let q = c.in_ok-part.ensures.phrase in
    let l = lexeme c.in-Some._open in
    let r = lexeme c.in_ok-_close._close in (
      action type' (p.0, inl (l, (q.0, r))),
      read_ref (found {k = type'} (read_then p.1 (read_first (starts_there open_sign c.in-Some.ensures.token) (read_then (token_read open_sign c.in-Some.ensures.token) (read_then q.1 (token_read (text (codes "]")) c.in_ok-_close.ensures.token)))))),
      λ i. record { base = p.2 i; part = (q.2 ∙ in_brackets l r q.0) i },
    )

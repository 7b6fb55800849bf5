use Rattle.std.proofs.Common.{◌++◌, [], ◌∷◌, inl, inr, refl, sym, ap, ◌∙◌, codes}
use Rattle.sac_ast.specs.Shape.{term, text, number}
use Rattle.sac_phrases.specs.Contract.{lexeme, lexemes_of}
use Rattle.sac_ast.specs.Grammar.{opt, Extents, parts}
use Rattle.sac_grammar.proofs.Parsing.{read_none}
use Rattle.sac_parse.specs.Leaves.{numbers_of, IsInnerPart}
use Rattle.sac_parse.proofs.Steps.{token_read, starts_there, extents_read, extents_stop, starts_none, leaf_error}
use Rattle.sac_base.specs.declared.types.Part.TheVariants.{Known, Rank}
use Rattle.sac_parse.proofs.Numbers.{numbers_shape, shape_of}
use Rattle.sac_parse.proofs.array_type.extents_part.Goals as goal

pub returns-in-Some-clause-phrase : goal.returns-in-Some-clause-phrase
returns-in-Some-clause-phrase c = (inl (inl (lexeme c.in-Some._sign)), extents_read 0 refl (starts_there (text (codes "+")) c.in-Some.ensures.token) (token_read (text (codes "+")) c.in-Some.ensures.token), refl)

pub returns-in-Some-accept-clause-phrase : goal.returns-in-Some-accept-clause-phrase
returns-in-Some-accept-clause-phrase c = (inl (inr (inl (lexeme c.in-Some-accept._sign))), extents_read 1 refl (starts_there (text (codes "*")) c.in-Some-accept.ensures.token) (token_read (text (codes "*")) c.in-Some-accept.ensures.token), refl)

pub returns-in_err-rank-clause-phrase : goal.returns-in_err-rank-clause-phrase
returns-in_err-rank-clause-phrase c = leaf_error (opt Extents) IsInnerPart (lexemes_of c.args.tokens.now) c.from_residual.result c.in_err-rank.field-0.0 c.from_residual.ensures.1 (λ k d. extents_stop 2 refl (sym c.starts_with.ensures ∙ c.if-starts_with.true) (c.in_err-rank.ensures.phrase k d))

pub returns-then-starts_with-clause-phrase : goal.returns-then-starts_with-clause-phrase
returns-then-starts_with-clause-phrase c =
    let p = c.in_ok-rank.ensures.phrase in
    (inl (inr (inr (inl p.0))), extents_read 2 refl (sym c.starts_with.ensures ∙ c.if-starts_with.true) p.1, ap Rank p.2)

pub returns-in_err-list-clause-phrase : goal.returns-in_err-list-clause-phrase
returns-in_err-list-clause-phrase c = leaf_error (opt Extents) IsInnerPart (lexemes_of c.args.tokens.now) c.from_residual-in_err-list.result c.in_err-list.field-0.0 c.from_residual-in_err-list.ensures.1 (λ k d. extents_stop 3 refl (sym c.starts_number.ensures ∙ c.if-starts_number.true) (c.in_err-list.ensures.phrase k d))

pub returns-then-starts_number-clause-phrase : goal.returns-then-starts_number-clause-phrase
returns-then-starts_number-clause-phrase c =
    let p = c.in_ok-list.ensures.phrase in
    (inl (inr (inr (inr p.0))), extents_read 3 refl (sym c.starts_number.ensures ∙ c.if-starts_number.true) p.1, ap Known (numbers_shape c.unwrap-shape.result (parts 7 (term number) p.0) (shape_of c.from_extents.result c.unwrap-shape.result c.deref.result.now c.from_extents.ensures.value c.unwrap-shape.ensures ∙ c.deref.ensures.value ∙ p.2 ∙ ap (λ l. l ++ numbers_of (parts 7 (term number) p.0)) c.new.ensures.items)))

pub returns-clause-phrase : goal.returns-clause-phrase
returns-clause-phrase c =
    let ts = lexemes_of c.args.tokens.now in
    let none = starts_none (text (codes "+")) (text (codes "*") ∷ text (codes ".") ∷ number ∷ []) ts c.in_default.ensures.token (starts_none (text (codes "*")) (text (codes ".") ∷ number ∷ []) ts c.in_default-accept.ensures.token (starts_none (text (codes ".")) (number ∷ []) ts (sym c.starts_with.ensures ∙ c.if-starts_with.false) (sym c.starts_number.ensures ∙ c.if-starts_number.false))) in
    (inr tt, read_none none, ap Known c.empty.ensures)

use Rattle.sac_ast.specs.Shape.{text}
use Rattle.std.proofs.Common.{codes, refl}
use mathlib.Core.Logic.{inl, inr}
use Rattle.sac_phrases.specs.Contract.{lexeme}
use Rattle.sac_grammar.proofs.Parsing.{read_first, read_second}
use Rattle.sac_phrases.proofs.Steps.{token_read, starts_there}
use Rattle.sac_phrases.proofs.leaf.relation.Goals as goal

pub returns-in-Some-clause-phrase : goal.returns-in-Some-clause-phrase
returns-in-Some-clause-phrase c = (inl (lexeme c.in-Some._sign), read_first (starts_there (text (codes "<=")) c.in-Some.ensures.token) (token_read c.in-Some.ensures.token), refl)

pub returns-clause-phrase : goal.returns-clause-phrase
returns-clause-phrase c = (inr (lexeme c.in_ok-_sign._sign), read_second c.in_default.ensures.token (token_read c.in_ok-_sign.ensures.token), refl)

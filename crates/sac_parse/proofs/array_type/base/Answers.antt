use Rattle.std.proofs.Common.{inl, inr, refl, codes}
use Rattle.sac_ast.specs.Shape.{text}
use Rattle.sac_phrases.specs.Contract.{lexeme}
use Rattle.sac_grammar.proofs.Parsing.{read_first, read_second}
use Rattle.sac_parse.proofs.Steps.{token_read, starts_there}
use Rattle.sac_parse.proofs.array_type.base.Goals as goal

pub returns-in-Some-clause-phrase : goal.returns-in-Some-clause-phrase
returns-in-Some-clause-phrase c = (inl (lexeme c.in-Some._word), read_first (starts_there (text (codes "int")) c.in-Some.ensures.token) (token_read (text (codes "int")) c.in-Some.ensures.token), refl)

pub returns-clause-phrase : goal.returns-clause-phrase
returns-clause-phrase c = (inr (lexeme c.in_ok-_word._word), read_second c.in_default.ensures.token (token_read (text (codes "bool")) c.in_ok-_word.ensures.token), refl)

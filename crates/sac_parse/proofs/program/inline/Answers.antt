use Rattle.std.proofs.Common.{inl, inr, refl, codes}
use Rattle.sac_ast.specs.Shape.{text}
use Rattle.sac_phrases.specs.Contract.{lexeme}
use Rattle.sac_grammar.proofs.Parsing.{read_first, read_none}
use Rattle.sac_parse.proofs.Steps.{token_read, starts_there}
use Rattle.sac_parse.proofs.program.inline.Goals as goal

pub returns-in-Some-clause-phrase : goal.returns-in-Some-clause-phrase
returns-in-Some-clause-phrase c = (inl (lexeme c.in-Some._word), read_first (starts_there (text (codes "inline")) c.in-Some.ensures.token) (token_read (text (codes "inline")) c.in-Some.ensures.token), refl)

pub returns-in-None-clause-phrase : goal.returns-in-None-clause-phrase
returns-in-None-clause-phrase c = (inr tt, read_none c.in-None.ensures.token, refl)

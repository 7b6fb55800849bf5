use Rattle.std.proofs.Common.{length, map}
use Rattle.sac_lex.specs.Cut.{lexeme}
use Rattle.sac_lex.proofs.Fronts.{Lexed}
use Rattle.sac_lex.proofs.lexer.lex.Given as goal

abbrev pub invariant-cut : goal.invariant-cut
invariant-cut l = Lexed l.source (map lexeme l.list.items) l.rest l.site

abbrev pub decreases-cut : goal.decreases-cut
decreases-cut l = length l.rest

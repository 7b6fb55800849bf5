use Rattle.std.proofs.Common.{◌≤◌, length}
use Rattle.sac_phrases.specs.Contract.{lexeme, lexemes_of}
use Rattle.sac_phrases.proofs.LeafSteps.{NamesRead}
use Rattle.sac_phrases.proofs.leaf.targets.Given as goal

abbrev pub invariant-loop-comma : goal.invariant-loop-comma
invariant-loop-comma l = record { shorter : length l.rest ≤ length l.tokens; so_far : NamesRead (lexeme l.fn.first) (lexemes_of l.tokens) l.found.items (lexemes_of l.rest) }

abbrev pub decreases-loop-comma : goal.decreases-loop-comma
decreases-loop-comma l = length l.rest

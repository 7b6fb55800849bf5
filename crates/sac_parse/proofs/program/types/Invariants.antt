use Rattle.std.proofs.Common.{◌<◌, length}
use Rattle.sac_ast.specs.Shape.{ref}
use Rattle.sac_ast.specs.Grammar.{type'}
use Rattle.sac_phrases.specs.Contract.{lexemes_of}
use Rattle.sac_parse.proofs.Steps.{SoFar}
use Rattle.sac_parse.proofs.program.types.Given as goal

abbrev pub invariant-loop-comma : goal.invariant-loop-comma
invariant-loop-comma l = record { list : SoFar (ref type') (lexemes_of l.tokens) l.found.items (lexemes_of l.rest); shorter : length l.rest < length l.tokens }

abbrev pub decreases-loop-comma : goal.decreases-loop-comma
decreases-loop-comma l = length l.rest

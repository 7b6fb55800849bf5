use Rattle.std.proofs.Common.{◌≤◌, length}
use Rattle.sac_phrases.specs.Contract.{lexemes_of}
use Rattle.sac_parse.proofs.Functions.{Functions}
use Rattle.sac_parse.proofs.program.program.Given as goal

abbrev pub invariant-loop-alloc : goal.invariant-loop-alloc
invariant-loop-alloc l = record { list : Functions l.checked (lexemes_of l.tokens) l.functions.items (lexemes_of l.rest); shorter : length l.rest ≤ length l.tokens }

abbrev pub decreases-loop-alloc : goal.decreases-loop-alloc
decreases-loop-alloc l = length l.rest

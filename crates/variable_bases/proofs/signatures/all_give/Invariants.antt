use Rattle.variable_bases.proofs.Groups.{GiveSoFar}
use Rattle.variable_bases.proofs.signatures.all_give.Given as goal

abbrev pub invariant-loop-signature : goal.invariant-loop-signature
invariant-loop-signature l = GiveSoFar l.signatures l.signature-index l.args l.table l.gives

use Rattle.variable_bases.proofs.Groups.{NoneSoFar}
use Rattle.variable_bases.proofs.signatures.first_fit.Given as goal

abbrev pub invariant-loop-signature : goal.invariant-loop-signature
invariant-loop-signature l = NoneSoFar l.signatures l.signature-index l.args l.table

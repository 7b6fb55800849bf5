use Rattle.variable_bases.proofs.Scopes.{NoneTold}
use Rattle.variable_bases.proofs.learn.literal_base.Given as goal

abbrev pub invariant-loop-x : goal.invariant-loop-x
invariant-loop-x l = NoneTold l.xs l.x-index l.table

use Rattle.std.proofs.Common.{◌≡◌, drop}
use Rattle.variable_bases.proofs.signatures.same_bases.Given as goal

abbrev pub invariant-loop-k : goal.invariant-loop-k
invariant-loop-k l = drop l.k l.a ≡ drop l.k l.b → l.a ≡ l.b

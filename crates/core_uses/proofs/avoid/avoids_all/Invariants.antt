use Rattle.std.proofs.Common.{◌≡◌, drop}
use Rattle.core_uses.specs.Tests.{none_is}
use Rattle.core_uses.proofs.avoid.avoids_all.Given as goal

abbrev pub invariant-loop-var : goal.invariant-loop-var
invariant-loop-var l = none_is l.x (drop l.var-index l.vars) ≡ none_is l.x l.vars

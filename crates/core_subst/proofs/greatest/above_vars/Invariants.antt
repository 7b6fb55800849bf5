use Rattle.std.proofs.Common.{◌≡◌, drop}
use Rattle.std.specs.Prelude.{max}
use Rattle.core_subst.specs.Names.{above_all}
use Rattle.core_subst.proofs.greatest.above_vars.Given as goal

abbrev pub invariant-loop-var : goal.invariant-loop-var
invariant-loop-var l = max l.number (above_all (drop l.var-index l.vars)) ≡ above_all l.vars

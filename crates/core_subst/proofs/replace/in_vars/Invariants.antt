use Rattle.std.proofs.Common.{◌≡◌, map, take}
use Rattle.core_subst.specs.Substitution.{image}
use Rattle.core_subst.proofs.replace.in_vars.Given as goal

abbrev pub invariant-loop-var : goal.invariant-loop-var
invariant-loop-var l = l.images.items ≡ map (image l.partners l.hidden) (take l.var-index l.vars)

use Rattle.std.proofs.Common.{◌≡◌, map, take}
use Rattle.core_subst.proofs.copy.naming.copy_vars.Given as goal

abbrev pub invariant-loop-var : goal.invariant-loop-var
invariant-loop-var g l = l.copied.items ≡ map (g.N.Naming.named l.names) (take l.var-index l.vars)

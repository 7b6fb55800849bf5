use Rattle.std.proofs.Common.{◌≡◌, drop}
use Rattle.core_ir.specs.Binders.{is_in}
use Rattle.core_subst.proofs.replace.contains.Given as goal

abbrev pub invariant-loop-var : goal.invariant-loop-var
invariant-loop-var l = is_in l.x (drop l.var-index l.vars) ≡ is_in l.x l.vars

use Rattle.std.proofs.Common.{◌≡◌, true, drop}
use Rattle.core_ir.specs.declared.tree.Var.{Var}
use Rattle.core_ir.specs.Binders.{is_in}
use Rattle.phase_kernels.proofs.over_checks.holders.first_holder.Given as goal

abbrev pub invariant-loop-x : goal.invariant-loop-x
invariant-loop-x l = (y : Var) → is_in y (drop l.x-index l.variables) ≡ true → is_in y l.variables ≡ true

use Rattle.std.proofs.Common.{◌≡◌, map, take}
use Rattle.core_ir.specs.declared.tree.Var.{Var}
use Rattle.sac_base.specs.declared.types.ArrayType.{ArrayType}
use Rattle.ref_counts.proofs.functions.param_vars.Given as goal

abbrev pub invariant-loop-var : goal.invariant-loop-var
invariant-loop-var l = l.vars.items ≡ map (λ (p : Var × ArrayType). p.0) (take l.var-index l.params)

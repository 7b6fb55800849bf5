use Rattle.std.proofs.Common.{◌≡◌, ◌++◌, map, zip, drop}
use Rattle.sac_base.specs.declared.types.ArrayType.{ArrayType}
use Rattle.core_ir.specs.declared.tree.Var.{Var}
use Rattle.specialise.proofs.building.retyped_params.Given as goal

abbrev pub invariant-loop-k : goal.invariant-loop-k
invariant-loop-k l = l.new.items ++ zip (map (λ (p : Var × ArrayType). p.0) (drop l.k l.params)) (drop l.k l.types) ≡ zip (map (λ (p : Var × ArrayType). p.0) l.params) l.types

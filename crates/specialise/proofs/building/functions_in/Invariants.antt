use Rattle.std.proofs.Common.{◌≡◌, map, take, Some}
use Rattle.core_ir.specs.declared.tree.CoreFun.{CoreFun}
use Rattle.core_ir.specs.View.{core_term, fun_term}
use Rattle.specialise.specs.Plans.{entries, function_at}
use Rattle.specialise.specs.Orders.{numbers}
use Rattle.specialise.proofs.building.functions_in.Given as goal

abbrev pub invariant-loop-key : goal.invariant-loop-key
invariant-loop-key l = map (λ (f : CoreFun). Some (fun_term f)) l.functions.items ≡ map (function_at (core_term l.core) (entries l.items)) (numbers (take l.key-index l.order))

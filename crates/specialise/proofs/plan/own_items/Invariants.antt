use Rattle.std.proofs.Common.{◌≡◌, ◌++◌, map, drop, length}
use Rattle.core_ir.specs.View.{fun_term}
use Rattle.specialise.specs.Plans.{entries, owns}
use Rattle.specialise.proofs.plan.own_items.Given as goal

abbrev pub invariant-loop-function : goal.invariant-loop-function
invariant-loop-function l = entries l.items.items ++ owns (length l.items.items) (map fun_term (drop l.function-index l.function-items)) ≡ owns 0 (map fun_term l.function-items)

use Rattle.std.proofs.Common.{◌≡◌, ◌++◌, map}
use Rattle.core_subst.specs.Names.{variable}
use Rattle.core_subst.proofs.unbound.in_order.Given as goal

abbrev pub invariant-loop-number : goal.invariant-loop-number
invariant-loop-number l = l.vars.items ++ map variable l.number-iterator ≡ map variable l.numbers.keys

use Rattle.std.proofs.Common.{◌≡◌, map, take}
use Rattle.copy_propagation.specs.Table.{source_in}
use Rattle.copy_propagation.proofs.operands.in_vars.Given as goal

abbrev pub invariant-loop-var : goal.invariant-loop-var
invariant-loop-var l = l.found.items ≡ map (source_in l.sources) (take l.var-index l.vars)

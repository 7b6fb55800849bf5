use Rattle.std.proofs.Common.{◌≡◌, map, take}
use Rattle.core_ir.proofs.copy.copy_groups.Given as goal

abbrev pub invariant-loop-group : goal.invariant-loop-group
invariant-loop-group l = map (λ g. g.items) l.copy.items ≡ map (λ g. g.items) (take l.group-index l.groups)

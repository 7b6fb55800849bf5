use Rattle.std.proofs.Common.{◌≡◌, map, take}
use Rattle.specialise.specs.Plans.{members}
use Rattle.specialise.proofs.plan.copy_groups.Given as goal

abbrev pub invariant-loop-group : goal.invariant-loop-group
invariant-loop-group l = members l.copy.items ≡ members (take l.group-index l.groups)

use Rattle.std.proofs.Common.{◌≡◌, take}
use Rattle.loop_code.specs.Offsets.{lowest_of}
use Rattle.loop_code.proofs.members.lowest.Given as goal

abbrev pub invariant-loop-axis : goal.invariant-loop-axis
invariant-loop-axis l = l.low.items ≡ lowest_of (take l.axis-index l.axis-items)

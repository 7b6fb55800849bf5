use Rattle.std.proofs.Common.{◌≡◌, take, All}
use Rattle.loop_code.specs.Offsets.{HasBounds}
use Rattle.loop_code.proofs.OffsetSteps.{numbers}
use Rattle.loop_code.proofs.members.extents_of.Given as goal

abbrev pub invariant-loop-axis : goal.invariant-loop-axis
invariant-loop-axis l = record {
  numbers : l.extents.items ≡ numbers (take l.axis-index l.axis-items);
  bounds : All HasBounds (take l.axis-index l.axis-items);
}

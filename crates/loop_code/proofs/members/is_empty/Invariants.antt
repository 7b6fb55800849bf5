use Rattle.std.proofs.Common.{◌≡◌, drop}
use Rattle.sac_base.specs.WithLoops.{is_empty_box}
use Rattle.array_with_loops.specs.GridFrames.{box_range}
use Rattle.loop_code.proofs.members.is_empty.Given as goal

abbrev pub invariant-loop-axis : goal.invariant-loop-axis
invariant-loop-axis l = is_empty_box (box_range (drop l.axis-index l.axis-items)) ≡ is_empty_box (box_range l.axis-items)

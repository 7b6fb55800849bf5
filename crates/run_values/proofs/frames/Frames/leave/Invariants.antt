use Rattle.std.proofs.Common.{◌≡◌}
use Rattle.run_values.specs.Scopes.{outer}
use Rattle.run_values.proofs.frames.Frames.leave.Given as goal

abbrev pub invariant-loop-undo : goal.invariant-loop-undo
invariant-loop-undo l = outer l.self ≡ outer l.fn.self

abbrev pub decreases-loop-undo : goal.decreases-loop-undo
decreases-loop-undo l = goal.left-loop-undo l

use Rattle.std.proofs.Common.{◌≡◌, ◌≤◌, length, take}
use Rattle.run_values.specs.Scopes.{slots_of}
use Rattle.run_values.proofs.frames.up_to_last.Given as goal

abbrev pub invariant-loop-count : goal.invariant-loop-count
invariant-loop-count l = (l.count ≤ length l.fn.slots) × (slots_of (take l.count l.fn.slots) ≡ slots_of l.fn.slots)

abbrev pub decreases-loop-count : goal.decreases-loop-count
decreases-loop-count l = l.count

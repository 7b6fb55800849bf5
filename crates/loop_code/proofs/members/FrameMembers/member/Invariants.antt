use Rattle.std.proofs.Common.{◌≡◌, ◌++◌, drop}
use Rattle.array_with_loops.specs.Frames.{added}
use Rattle.loop_code.proofs.members.FrameMembers.member.Given as goal

abbrev pub invariant-loop-k : goal.invariant-loop-k
invariant-loop-k l = l.into.items ++ added (drop l.k l.self-inside.low.items) (drop l.k l.offset) ≡ added l.self-inside.low.items l.offset

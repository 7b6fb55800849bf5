use Rattle.std.proofs.Common.{◌≡◌, length}
use Rattle.sac_base.specs.Places.{vector_at}
use Rattle.array_with_loops.specs.Frames.{added}
use Rattle.array_with_loops.proofs.FrameSteps.{Left}
use Rattle.array_with_loops.proofs.frames.Frame.index.Given as goal

abbrev pub invariant-loop-k : goal.invariant-loop-k
invariant-loop-k l = record {
  left : Left l.self-inside.low.items l.self-inside.extents l.k l.weight l.rest l.into-inside.components.items (added l.self-inside.low.items (vector_at l.self-inside.extents l.place));
  count : length l.into-inside.components.items ≡ l.k;
}

use Rattle.std.proofs.Common.{◌≡◌, drop}
use Rattle.std.specs.Prelude.{IfSome}
use Rattle.array_with_loops.specs.Frames.{frame_with, joined_frame, IsSomeBox}
use Rattle.array_with_loops.proofs.frames.joined_range.Given as goal

abbrev pub invariant-loop-range : goal.invariant-loop-range
invariant-loop-range l = record {
  frame : frame_with l.joined (drop l.range-index l.ranges) ≡ joined_frame l.ranges;
  some : IfSome l.joined IsSomeBox;
}

use Rattle.std.proofs.Common.{◌≡◌, take, map, length}
use Rattle.core_loops.specs.Loops.{axis_of}
use Rattle.core_loops.specs.Pairs.{box_range}
use Rattle.fold_pieces.proofs.within.box_of.Given as goal

abbrev pub invariant-loop-axis : goal.invariant-loop-axis
invariant-loop-axis l = record {
  made : map axis_of l.axes.items ≡ box_range (take l.axis-index l.axis-items);
  long : length l.axes.items ≡ l.axis-index;
}

use Rattle.std.proofs.Common.{◌≡◌, take, map, length, All}
use Rattle.core_loops.specs.Loops.{axis_of}
use Rattle.partable_loops.specs.Framings.{IsWordAxis}
use Rattle.partable_loops.proofs.Boxes.{filled_axis}
use Rattle.partable_loops.proofs.grids.grid_of_box.Given as goal

abbrev pub invariant-loop-axis : goal.invariant-loop-axis
invariant-loop-axis l = record {
  made : map axis_of l.axes.items ≡ map filled_axis (take l.axis-index l.axis-items);
  long : length l.axes.items ≡ l.axis-index;
  words : All IsWordAxis l.axes.items;
}

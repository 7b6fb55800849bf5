use Rattle.std.proofs.Common.{◌≡◌, map, take, pos}
use Rattle.core_ir.specs.Meaning.{extents}
use Rattle.run_values.specs.Numbers.{numbers}
use Rattle.run_loops.proofs.bounds.outer_shape.Given as goal

abbrev pub invariant-loop-axis : goal.invariant-loop-axis
invariant-loop-axis l = numbers l.few ≡ map pos (extents (take l.axis-index l.axis-items))

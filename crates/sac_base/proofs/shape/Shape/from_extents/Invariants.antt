use Rattle.std.proofs.Common.{take, All}
use Rattle.sac_base.specs.Shapes.{IsExtent}
use Rattle.sac_base.proofs.shape.Shape.from_extents.Given as goal

abbrev pub invariant-loop-n : goal.invariant-loop-n
invariant-loop-n l = All IsExtent (take l.n-index l.extents)

use Rattle.std.proofs.Common.{◌≡◌, take, map, replicate, pos}
use Rattle.sac_base.specs.declared.grid.Grid1.{Grid1}
use Rattle.array_with_loops.proofs.frames.box_of.Given as goal

abbrev pub invariant-loop-axis : goal.invariant-loop-axis
invariant-loop-axis l = record {
  lower : l.lower.items ≡ map (λ (a : Grid1). a.lo) (take l.axis-index l.axis-items);
  upper : l.upper.items ≡ map (λ (a : Grid1). a.hi) (take l.axis-index l.axis-items);
  ones : l.ones.items ≡ replicate l.axis-index (pos 1);
}

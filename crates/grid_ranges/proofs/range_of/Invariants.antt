use Rattle.std.proofs.Common.{◌≡◌, take, map, All}
use Rattle.sac_base.specs.declared.grid.Grid1.{Grid1}
use Rattle.array_with_loops.specs.Ranges.{IsBound, IsStep}
use Rattle.grid_ranges.proofs.range_of.Given as goal

abbrev pub invariant-loop-axis : goal.invariant-loop-axis
invariant-loop-axis l = record {
  lower : l.lower.items ≡ map (λ (a : Grid1). a.lo) (take l.axis-index l.axis-items);
  upper : l.upper.items ≡ map (λ (a : Grid1). a.hi) (take l.axis-index l.axis-items);
  step : l.step.items ≡ map (λ (a : Grid1). a.step) (take l.axis-index l.axis-items);
  width : l.width.items ≡ map (λ (a : Grid1). a.width) (take l.axis-index l.axis-items);
  lowers : All IsBound l.lower.items;
  uppers : All IsBound l.upper.items;
  steps : All IsStep l.step.items;
  widths : All IsStep l.width.items;
}

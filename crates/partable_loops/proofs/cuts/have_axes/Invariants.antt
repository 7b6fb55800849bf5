use Rattle.std.proofs.Common.{◌≡◌, length, take, All}
use Rattle.partable_loops.proofs.cuts.have_axes.Given as goal

abbrev pub invariant-loop-grid : goal.invariant-loop-grid
invariant-loop-grid l = All (λ g. length g ≡ l.axes) (take l.grid-index l.grids)

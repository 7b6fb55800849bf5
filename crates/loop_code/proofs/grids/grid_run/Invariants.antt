use Rattle.std.proofs.Common.{◌≡◌, ℕ, drop}
use Rattle.sac_base.specs.Grids.{has_vector}
use Rattle.array_with_loops.specs.Ranges.{moved_last}
use Rattle.loop_code.proofs.grids.grid_run.Given as goal

abbrev pub invariant-loop-k : goal.invariant-loop-k
invariant-loop-k l = (j : ℕ) → has_vector (drop l.k l.axes) (moved_last j (drop l.k l.index)) ≡ has_vector l.axes (moved_last j l.index)

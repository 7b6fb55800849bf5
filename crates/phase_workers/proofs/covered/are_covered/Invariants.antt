use Rattle.std.proofs.Common.{◌≡◌, ℕ, ◌<◌, true}
use Rattle.std.specs.Prelude.{is_some}
use Rattle.phase_loop_cells.specs.Cells.{index_at}
use Rattle.run_loops.specs.Loops.{held_body}
use Rattle.phase_workers.proofs.covered.are_covered.Given as goal

abbrev pub invariant-loop-place : goal.invariant-loop-place
invariant-loop-place l = (p : ℕ) → p < l.place → is_some (held_body l.cells.source l.cells.plan.now.ranges.items (index_at l.cells.plan.now.frame p)) ≡ true

-- Runs of positions that have one body.
use Rattle.std.specs.Prelude.{◌≡◌, ℕ, ◌≤◌, ◌<◌, Option, Some, None}
use Rattle.array_with_loops.specs.declared.plans.Plan.{Plan}
use Rattle.phase_loop_cells.specs.Cells.{index_at}
use Rattle.phase_loop_cells.specs.Ranges.{AreMade}
use Rattle.phase_loop_cells.specs.declared.walk.CellRun.{CellRun}
use Rattle.phase_loop_cells.specs.declared.walk.Walk.{Walk}
use Rattle.run_loops.specs.declared.cell_loop.CellSource.{CellSource}
use Rattle.run_loops.specs.Loops.{Body, held_body, placed_body}

-- the body of the generator or part at a place, or none
abbrev pub body_of_run : CellSource → Option ℕ → Option Body
body_of_run source None = None
body_of_run source (Some place) = placed_body source place

-- at each of a run's positions its body computes the cell
abbrev pub IsRun : CellSource → Plan → CellRun → Type 0
IsRun source plan run =
    (position : ℕ) → run.from ≤ position → position < run.until
    → held_body source plan.ranges.items (index_at plan.frame position) ≡ body_of_run source run.place

abbrev pub IsWalk : CellSource → Plan → Walk → Type 0
IsWalk source plan walk = AreMade source walk.made.items × IsRun source plan walk.run

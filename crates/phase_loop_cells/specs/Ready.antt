-- What a worker may have between two cells.
use Rattle.std.specs.Prelude.{◌≡◌}
use Rattle.phase_loop_cells.specs.Walks.{IsWalk}
use Rattle.phase_loop_cells.specs.declared.loops.LoopCells.{LoopCells}
use Rattle.phase_loop_cells.specs.declared.scratch.CellScratch.{CellScratch}
use Rattle.run_values.specs.Scopes.{current}

-- its variables are those of the call, and its run is right
abbrev pub IsReady : LoopCells → CellScratch → Type 0
IsReady cells scratch =
    (current scratch.frames ≡ current cells.frames.now) × IsWalk cells.source cells.plan.now scratch.walk

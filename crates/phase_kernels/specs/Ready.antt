-- What a worker may have between two cells.
use Rattle.std.specs.Prelude.{IfSome}
use Rattle.phase_kernels.specs.declared.cells.KernelCells.{KernelCells}
use Rattle.phase_kernels.specs.declared.scratch.KernelScratch.{KernelScratch}
use Rattle.phase_loop_cells.specs.Ready.{IsReady}

-- what the evaluator needs if it has run a cell
abbrev pub IsKernelReady : KernelCells → KernelScratch → Type 0
IsKernelReady s scratch = IfSome scratch.cells (IsReady s.cells)

-- What a phase makes once.
use Rattle.std.specs.Prelude.{List, Option}
use Rattle.kernel_rows.specs.declared.kernels.CellKernel.{CellKernel}
use Rattle.kernel_rows.specs.Kernels.{AreCellKernels}
use Rattle.kept_kernels.specs.Bodies.{source_bodies}
use Rattle.phase_kernels.specs.Calls.{calls_in}
use Rattle.phase_kernels.specs.declared.cells.KernelCells.{KernelCells}
use Rattle.phase_loop_cells.specs.Opened.{lent_env}
use Rattle.phase_loop_cells.specs.Ranges.{AreMade}
use Rattle.run_values.specs.Scopes.{current}
use Rattle.sac_base.specs.Arrays.{ArrayValue}
use Rattle.sac_base.specs.WithLoops.{Range}

-- the ranges of parts, and the kernels of the bodies where calls mean what the functions do, over these buffers
abbrev pub AreKernelsOf : KernelCells → List Range → List (Option CellKernel) → List ArrayValue → Type 0
AreKernelsOf s ranges kernels buffers =
    AreMade s.cells.source ranges
    × AreCellKernels (calls_in s.cells.context) buffers (lent_env s.cells.heap.now (current s.cells.frames.now)) s.cells.plan.now.form
    (source_bodies s.cells.source) kernels

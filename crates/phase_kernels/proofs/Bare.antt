-- Cells without kernels.
use Rattle.std.proofs.Common.{◌≡◌, List, [], Option, sym, subst}
use Rattle.kernel_rows.specs.declared.kernels.CellKernel.{CellKernel}
use Rattle.kernel_rows.specs.Kernels.{AreCellKernels}
use Rattle.phase_kernels.specs.declared.cells.KernelCells.{KernelCells}
use Rattle.kept_kernels.specs.Bodies.{source_bodies}
use Rattle.phase_kernels.specs.Calls.{calls_in}
use Rattle.phase_kernels.specs.Made.{AreKernelsOf}
use Rattle.phase_loop_cells.specs.Opened.{lent_env}
use Rattle.phase_loop_cells.specs.Ranges.{AreMade}
use Rattle.run_loops.specs.declared.cell_loop.CellSource.{CellSource}
use Rattle.run_loops.specs.declared.cell_loop.CellSource.TheVariants.{Generators, Parts}
use Rattle.run_values.specs.Scopes.{current}
use Rattle.sac_base.specs.Arrays.{ArrayValue}
use Rattle.sac_base.specs.WithLoops.{Range}

no_ranges : (source : CellSource) → AreMade source []
no_ranges (Generators gens) = tt
no_ranges (Parts parts) = tt

pub without_kernels : (s : KernelCells) (ranges : List Range) (kernels : List (Option CellKernel)) (buffers : List ArrayValue) → ranges ≡ [] → kernels ≡ []
    → AreKernelsOf s ranges kernels buffers
without_kernels s ranges kernels buffers none bare = (
  subst (AreMade s.cells.source) (sym none) (no_ranges s.cells.source),
  subst (AreCellKernels (calls_in s.cells.context) buffers (lent_env s.cells.heap.now (current s.cells.frames.now)) s.cells.plan.now.form (source_bodies s.cells.source)) (sym bare) (λ k. tt),
)

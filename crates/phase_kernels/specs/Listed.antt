-- The kernels of a phase.
use Rattle.std.specs.Prelude.{List, Option}
use Rattle.kernel_rows.specs.declared.kernels.CellKernel.{CellKernel}
use Rattle.phase_kernels.specs.declared.lists.KernelList.{KernelList}
use Rattle.phase_kernels.specs.declared.lists.KernelList.TheVariants.{Kept, Made}

-- those that were made, or those that are kept
abbrev pub listed : KernelList → List (Option CellKernel)
listed (Made kernels) = kernels.items
listed (Kept kernels) = kernels.now

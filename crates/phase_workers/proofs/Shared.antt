-- The cells of a loop may be shared among threads.
use denote.Builtin.{bool}
use denote.Enum.Declared.{shape as enum_shape}
use denote.Hole.{as_row}
use denote.Param.Send.{IsSync, enum_sync, shr_sync, shr_slice_sync, view_sync, sendable}
use denote.Param.SendFields.{as_row_sync, declared_sync}
use denote.Struct.Field.{bool-field, shr_ref_field, shr_slice_field}
use Rattle.array_with_loops.specs.contracts.plans.Plan as plan
use Rattle.array_with_loops.proofs.plans.Plan.TheSendSync as plan_shared
use Rattle.array_with_loops.specs.contracts.ranges.Range as range
use Rattle.array_with_loops.proofs.ranges.Range.TheSendSync as range_shared
use Rattle.buffer_heap.specs.contracts.heap.Heap as heap
use Rattle.buffer_heap.proofs.heap.Heap.TheSendSync as heap_shared
use Rattle.core_ir.specs.contracts.tree.Var as var
use Rattle.counted_code.specs.contracts.tree.Code as code
use Rattle.counted_code.specs.contracts.tree.CodeGen as gen
use Rattle.counted_code.specs.contracts.tree.CodePart as part
use Rattle.kernel_buffers.specs.contracts.buffer.Buffer as buffer
use Rattle.kernel_buffers.proofs.buffer.Buffer.TheSendSync as buffer_shared
use Rattle.kernel_rows.specs.contracts.kernels.CellKernel as kernel
use Rattle.phase_kernels.specs.contracts.cells.KernelCells as kernels
use Rattle.phase_kernels.specs.contracts.lists.KernelList as list
use Rattle.phase_kernels.specs.contracts.shared.PhaseKernels as phase
use Rattle.phase_kernels.specs.contracts.shared.PhaseKernels.TheInside as phase_inside
use Rattle.phase_loop_cells.specs.contracts.copies.Background as background
use Rattle.phase_loop_cells.proofs.copies.Background.TheSendSync as background_shared
use Rattle.phase_loop_cells.specs.contracts.loops.LoopCells as cells
use Rattle.phase_workers.specs.contracts.covered.CoveredCells as covered
use Rattle.run_kernels.specs.contracts.calls.CallKernel as call
use Rattle.run_kernels.specs.contracts.groups.PlainGroups as groups
use Rattle.run_kernels.specs.contracts.groups.PlainGroups.TheInside as groups_inside
use Rattle.run_loops.specs.contracts.cell_loop.CellSource as source
use Rattle.run_loops.specs.contracts.state.Context as context
use Rattle.run_loops.specs.contracts.state.CountedCode as counted
use Rattle.run_loops.specs.contracts.state.CountedCode.TheInside as inside
use Rattle.run_values.specs.contracts.frames.Frames as frames
use Rattle.run_values.proofs.frames.Frames.TheSendSync as frames_shared
use Rattle.std.specs.contracts.alloc.Global as global
use Rattle.std.specs.contracts.impls.GlobalAllocator.TheImpl.{ghosts}
use Rattle.std.specs.contracts.option.Option as option
use Rattle.std.specs.contracts.vec.Vec as vec
use Rattle.std.proofs.Crossing.{Vec-sync}

module _ (code_sync : IsSync code.the_row) (call_sync : IsSync call.the_row) where
  groups_sync : (l : _) → IsSync (groups.the_row l)
  groups_sync l = view_sync (groups_inside.the_row l) _ _ _ _ (declared_sync (groups_inside.the_type l) (
    as_row_sync (shr_ref_field l code.the_row tt) (shr_sync _ _ code.the_row code_sync),
    (
      as_row_sync (vec.the_field bool global.the_row ghosts) (search (Vec-sync, sendable) depth 20),
      (as_row_sync (vec.the_field call.the_row global.the_row ghosts) (search (Vec-sync, sendable, call_sync) depth 20), tt),
    ),
  ))

  counted_sync : (l : _) → IsSync (counted.the_row l)
  counted_sync l = view_sync (inside.the_row l) _ _ _ _ (declared_sync (inside.the_type l) (
    as_row_sync (shr_ref_field l code.the_row tt) (shr_sync _ _ code.the_row code_sync),
    (
      as_row_sync (vec.the_field bool global.the_row ghosts) (search (Vec-sync, sendable) depth 20),
      (as_row_sync bool-field (search (sendable)), (as_row_sync (groups.the_field l) (groups_sync l), tt)),
    ),
  ))

  context_sync : (l : _) → IsSync (as_row (context.the_field l))
  context_sync l = as_row_sync (context.the_field l) (search (sendable, counted_sync l) depth 14)

  module _ (gen_sync : IsSync gen.the_row) (part_sync : IsSync part.the_row) where
    source_sync : (l : _) → IsSync (as_row (source.the_field l))
    source_sync l = as_row_sync (source.the_field l) (enum_sync (enum_shape (source.the_type l)) (
      (shr_slice_sync _ _ gen.the_row gen_sync, tt),
      ((shr_slice_sync _ _ part.the_row part_sync, tt), tt),
    ))

    cells_sync : (l : _) → IsSync (as_row (cells.the_field l))
    cells_sync l = declared_sync (cells.the_type l) (
      context_sync l,
      (
        as_row_sync (shr_ref_field l heap.the_row tt) (shr_sync _ _ heap.the_row heap_shared.the_sync),
        (
          as_row_sync (shr_ref_field l (frames.the_row l) tt) (shr_sync _ _ (frames.the_row l) (frames_shared.the_sync l)),
          (
            source_sync l,
            (
              as_row_sync (shr_ref_field l plan.the_row tt) (shr_sync _ _ plan.the_row plan_shared.the_sync),
              (as_row_sync (option.the_field (background.the_row l)) (search (sendable, background_shared.the_sync) depth 14), tt),
            ),
          ),
        ),
      ),
    )

    kernels_sync : (l : _) → IsSync (kernels.the_row l)
    kernels_sync l = declared_sync (kernels.the_type l) (
      cells_sync l,
      (as_row_sync (shr_slice_field l var.the_row tt) (shr_slice_sync _ _ var.the_row (search (sendable))), tt),
    )

    module _ (kernel_sync : IsSync (option.the_row kernel.the_row)) where
      list_sync : (l : _) → IsSync (as_row (list.the_field l))
      list_sync l = as_row_sync (list.the_field l) (enum_sync (enum_shape (list.the_type l)) (
        (as_row_sync (vec.the_field (option.the_row kernel.the_row) global.the_row ghosts) (search (Vec-sync, sendable, kernel_sync) depth 20), tt),
        ((shr_slice_sync _ _ (option.the_row kernel.the_row) kernel_sync, tt), tt),
      ))

      pub phase_sync : (l : _) → IsSync (phase.the_row l)
      phase_sync l = view_sync (phase_inside.the_row l) _ _ _ _ (declared_sync (phase_inside.the_type l) (
        kernels_sync l,
        (
          as_row_sync (vec.the_field range.the_row global.the_row ghosts) (search (Vec-sync, sendable, range_shared.the_sync) depth 20),
          (
            list_sync l,
            (as_row_sync (vec.the_field (buffer.the_row l) global.the_row ghosts) (search (Vec-sync, sendable, buffer_shared.the_sync) depth 20), tt),
          ),
        ),
      ))

      pub covered_sync : (l : _) → IsSync (covered.the_row l)
      covered_sync l = declared_sync (covered.the_type l) (as_row_sync (phase.the_field l) (phase_sync l), tt)

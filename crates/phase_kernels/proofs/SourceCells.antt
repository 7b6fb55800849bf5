-- What the kernels of a source tell of the cells of a loop.
use Rattle.std.proofs.Common.{◌≡◌, ℕ, ℤ, List, [], ◌∷◌, Option, Some, Ok, Err}
use Rattle.buffer_heap.specs.Heaps.{HeapValue}
use Rattle.array_with_loops.specs.declared.plans.Plan.{Plan}
use Rattle.counted_code.specs.Machine.{Values}
use Rattle.kernel_rows.specs.declared.kernels.CellKernel.{CellKernel}
use Rattle.kernel_rows.specs.Kernels.{AreCellKernels, CellFaults, CellIs}
use Rattle.phase_kernels.specs.declared.cells.KernelCells.{KernelCells}
use Rattle.phase_kernels.specs.Calls.{calls_in}
use Rattle.kept_kernels.specs.Bodies.{source_bodies}
use Rattle.phase_kernels.proofs.GenCells.{gen_fault, gen_value}
use Rattle.phase_kernels.proofs.PartCells.{part_fault, part_value}
use Rattle.phase_loop_cells.specs.declared.copies.Background.{Background}
use Rattle.phase_loop_cells.specs.Cells.{fill_at, index_at, source_cell, source_taken}
use Rattle.phase_loop_cells.specs.Ranges.{AreMade, ranges_of}
use Rattle.phase_loop_cells.specs.Opened.{lent_env}
use Rattle.run_loops.specs.declared.cell_loop.CellSource.{CellSource}
use Rattle.run_loops.specs.declared.cell_loop.CellSource.TheVariants.{Generators, Parts}
use Rattle.run_loops.specs.declared.state.Context.{Context}
use Rattle.sac_base.specs.Arrays.{ArrayValue, size}
use Rattle.sac_base.specs.declared.faults.Fault.{Fault}
use Rattle.run_values.specs.Scopes.{current}
use Rattle.sac_base.specs.Outcomes.{Ends}
use Rattle.sac_base.specs.WithLoops.{Range}

-- what the cell of a position comes to, and how many buffers it takes
abbrev pub cell_of : KernelCells → ℕ → Ends (Option (List ℤ))
cell_of s = source_cell s.cells.context s.cells.heap.now (current s.cells.frames.now) s.cells.source s.cells.plan.now s.cells.background

abbrev pub taken_of : KernelCells → ℕ → ℕ
taken_of s = source_taken s.cells.context s.cells.heap.now (current s.cells.frames.now) s.cells.source s.cells.plan.now

module _ (context : Context) (lends : HeapValue) (e : Values) (plan : Plan) (background : Option Background) (made : List Range) (bs : List ArrayValue) (kernels : List (Option CellKernel)) (place : ℕ) where
  -- a kernel's number is the cell
  pub source_value : (source : CellSource) → AreCellKernels (calls_in context) bs (lent_env lends e) plan.form (source_bodies source) kernels → AreMade source made → (n : ℤ) → CellIs context.turns bs (ranges_of source plan made) kernels (index_at plan.frame place) n
      → (source_cell context lends e source plan background place ≡ Ok (Some (n ∷ []))) × (source_taken context lends e source plan place ≡ 0) × (size plan.form.shape ≡ 1)
  source_value (Generators gens) are hold n is =
      gen_value (calls_in context) context.turns bs (lent_env lends e) plan.form gens.now kernels are plan.ranges.items (index_at plan.frame place) (fill_at background place) n is
  source_value (Parts parts) are hold n is =
      part_value (calls_in context) context.turns bs (lent_env lends e) plan.form parts.now kernels are made hold (index_at plan.frame place) (fill_at background place) n is

  -- and its fault the cell's
  pub source_fault : (source : CellSource) → AreCellKernels (calls_in context) bs (lent_env lends e) plan.form (source_bodies source) kernels → AreMade source made → (f : Fault) → CellFaults context.turns bs (ranges_of source plan made) kernels (index_at plan.frame place) f
      → source_cell context lends e source plan background place ≡ Err f
  source_fault (Generators gens) are hold f is =
      gen_fault (calls_in context) context.turns bs (lent_env lends e) plan.form gens.now kernels are plan.ranges.items (index_at plan.frame place) (fill_at background place) f is
  source_fault (Parts parts) are hold f is =
      part_fault (calls_in context) context.turns bs (lent_env lends e) plan.form parts.now kernels are made hold (index_at plan.frame place) (fill_at background place) f is

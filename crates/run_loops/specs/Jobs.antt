-- The machine's job of a loop whose checks have passed.
use Rattle.std.specs.Prelude.{◌≡◌, ℕ, Bool, true, false, List, ℤ, pos, map, fold, Option, Some, None, flat_map}
use Rattle.sac_base.specs.declared.base.Base.{Base}
use Rattle.sac_base.specs.declared.grid.Grid1.{Grid1}
use Rattle.sac_base.specs.Arrays.{ArrayValue}
use Rattle.sac_base.specs.Grids.{members}
use Rattle.sac_base.specs.WithLoops.{Plan, Range, combined}
use Rattle.core_loops.specs.folds.Cells.{IsBox}
use Rattle.core_ir.specs.Meaning.{elements_of, extents, joined}
use Rattle.counted_code.specs.Loops.{Job, Source, holder, job_does, part_holder}
use Rattle.counted_code.specs.Machine.{Values}
use Rattle.counted_code.specs.Values.{Heap, Value, Ended, is_small, read}
use Rattle.array_with_loops.specs.Cells.{array_from, cell_from, cells_from}
use Rattle.array_with_loops.specs.Plans.{plan_of}
use Rattle.run_loops.specs.declared.cell_loop.CellLoop.{CellLoop}
use Rattle.run_loops.specs.declared.cell_loop.CellSource.{CellSource}
use Rattle.run_loops.specs.declared.cell_loop.CellSource.TheVariants.{Generators, Parts}
use Rattle.run_loops.specs.declared.cell_loop.LoopResult.{LoopResult}
use Rattle.run_loops.specs.declared.cell_loop.LoopResult.TheVariants.{Filled, Joined, Folded}
use Rattle.run_loops.specs.declared.cells.Background.{Background}
use Rattle.run_loops.specs.declared.state.Context.{Context}
use Rattle.run_loops.specs.Running.{cells_in, generator_in}
use Rattle.run_over.specs.Soles.{is_only}
use Rattle.run_values.specs.Shown.{value_of}

-- where the machine's cells come from
abbrev pub source_of : Context → Values → Heap → CellSource → List Range → List ℤ → Option Source
source_of context e k (Generators gens) ranges = holder (map (generator_in context e k) gens.now) ranges
source_of context e k (Parts parts) ranges = part_holder (map (cells_in context e) parts.now)

-- what is made of its cells, where the loop begins in this heap
abbrev pub result_of : Heap → LoopResult → Plan → List (Option ArrayValue) → ArrayValue
result_of k (Filled v old) p = array_from old (read k (value_of v)) p
result_of k Joined p = joined p.form.base p.shape
result_of k (Folded op neutral) p = fold (combined op) neutral.now

abbrev pub folds_of : LoopResult → Bool
folds_of (Filled v old) = false
folds_of Joined = false
folds_of (Folded op neutral) = true

abbrev pub cells_job : Context → Values → Heap → CellLoop → Bool → (List (Option ArrayValue) → ArrayValue) → Job
cells_job context e k work folds result =
    record {
      form = work.plan.now.form;
      shape = work.plan.now.shape;
      folds = folds;
      indices = work.plan.now.frame;
      source = source_of context e k work.source work.plan.now.ranges.items;
      result = result;
    }

abbrev pub job_of : Context → Values → Heap → CellLoop → Job
job_of context e k work = cells_job context e k work (folds_of work.result) (result_of k work.result (plan_of work.plan.now))

-- ---- arrays over that of a marked variable

abbrev pub BeginsAtZero : Grid1 → Type 0
BeginsAtZero axis = axis.lo ≡ pos 0

-- each number is a member
abbrev pub IsDense : Grid1 → Type 0
IsDense axis = axis.step ≡ pos 1

-- these are the indices of a shape, in row-major order
pub record AreIndicesOf (shape : List ℕ) (indices : List (List ℤ)) : Type 0 where
  pub frame : List Grid1
  pub box : IsBox frame
  pub shape_is : shape ≡ extents frame
  pub indices_are : indices ≡ members frame

-- the result is no small one, the cells are its elements in order, and the value is the only reference to its buffer
pub record IsOver (work : CellLoop) (w : Value) (m : Heap) : Type 0 where
  pub large : is_small work.plan.now.shape ≡ false
  pub only : is_only m w ≡ true
  pub in_order : AreIndicesOf work.plan.now.shape work.plan.now.frame

-- an array of the cells alone, by the machine's loop with a mark
abbrev pub over_does : Context → Values → CellLoop → Value → Heap → Ended Value
over_does context e work w m =
    job_does (Some w) (cells_job context e m work false (joined work.plan.now.form.base work.plan.now.shape)) m

-- ---- arrays over a background, or with nothing where there is no cell

abbrev pub cell_over : Option Background → ℕ → Option ArrayValue → List ℤ
cell_over None place c = elements_of c
cell_over (Some b) place c = cell_from b.old b.array.now b.size place c

abbrev pub cells_over : Option Background → ℕ → List (Option ArrayValue) → List ℤ
cells_over None place found = flat_map elements_of found
cells_over (Some b) place found = cells_from b.old b.array.now b.size place found

abbrev pub array_over : Base → List ℕ → Option Background → List (Option ArrayValue) → ArrayValue
array_over base shape background found = record { base = base; shape = shape; cells = cells_over background 0 found }

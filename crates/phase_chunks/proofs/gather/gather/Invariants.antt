use Rattle.std.proofs.Common.{◌≡◌, ◌-◌, ◌≤◌, List, ℤ, Option, Ok}
use Rattle.sac_base.specs.Verdict.{each, present, combined}
use Rattle.wl_core.specs.Machine.{combine}
use Rattle.phase_team.specs.Segments.{cells_from, value_if, Costs, HaveWidth}
use Rattle.phase_chunks.proofs.gather.gather.Given as goal

abbrev pub decreases-loop-done : goal.decreases-loop-done
decreases-loop-done g l = l.stretch.count - l.done

abbrev pub invariant-loop-done : goal.invariant-loop-done
invariant-loop-done g l = record {
  most : l.done ≤ l.stretch.count;
  combined_so_far : (values : List (Option (List ℤ))) × (each (cells_from (g.C.PhaseCells.cell l.work.cells.now) l.stretch.start l.done) ≡ Ok values) × (combined (combine l.op) (present values) ≡ value_if l.held l.row) × HaveWidth l.fn.work.share.width values;
  worker : g.C.PhaseCells.idle l.work.cells.now l.worker.context;
  spent : Costs (g.C.PhaseCells.cost l.work.cells.now) l.stretch.start l.done (g.C.PhaseCells.spent l.work.cells.now l.fn.worker.context) (g.C.PhaseCells.spent l.work.cells.now l.worker.context);
  seat : l.worker.seat ≡ l.fn.worker.seat;
}

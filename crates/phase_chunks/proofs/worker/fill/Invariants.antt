use Rattle.std.proofs.Common.{◌≡◌, ◌*◌, ◌-◌, ◌≤◌, take}
use Rattle.phase_team.specs.Segments.{Costs}
use Rattle.phase_team.proofs.Stored.{Are}
use Rattle.phase_chunks.proofs.worker.fill.Given as goal

abbrev pub decreases-loop-done : goal.decreases-loop-done
decreases-loop-done g l = l.stretch.count - l.done

abbrev pub invariant-loop-done : goal.invariant-loop-done
invariant-loop-done g l = record {
  most : l.done ≤ l.stretch.count;
  stored : Are (g.C.PhaseCells.cell l.work.cells.now) l.stretch.start l.done l.work.share.width (take (l.done * l.work.share.width) l.rows);
  worker : g.C.PhaseCells.idle l.work.cells.now l.worker.context;
  spent : Costs (g.C.PhaseCells.cost l.work.cells.now) l.stretch.start l.done (g.C.PhaseCells.spent l.work.cells.now l.fn.worker.context) (g.C.PhaseCells.spent l.work.cells.now l.worker.context);
  seat : l.worker.seat ≡ l.fn.worker.seat;
}

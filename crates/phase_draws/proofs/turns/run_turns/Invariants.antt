use Rattle.std.proofs.Common.{◌≡◌, ◌-◌, ◌≤◌, map, length, false}
use Rattle.std.specs.Vec.{vec_capacity}
use Rattle.phase_chunks.specs.Seats.{IsFresh}
use Rattle.phase_draws.specs.Crews.{drawn_by, IsGoing}
use Rattle.phase_draws.specs.Reports.{AllOk, AreDone, Told}
use Rattle.phase_chunks.specs.Chunks.{ChunkReport}
use Rattle.count_table.proofs.Bounds.{bound}
use Rattle.phase_draws.proofs.turns.run_turns.Given as goal

abbrev pub invariant-loop-drawn : goal.invariant-loop-drawn
invariant-loop-drawn g l = record {
  fresh : IsFresh l.team.work.table.now l.member.worker.seat;
  more : IsGoing false l.member.worker.seat;
  done : AreDone (g.C.PhaseCells.cell l.team.work.cells.now) l.team.work.share l.team.work.table.now.parts l.member.reports.items;
  drawn : map (λ (r : ChunkReport). r.chunk) l.member.reports.items ≡ drawn_by l.member.worker.seat;
  worker : g.C.PhaseCells.idle l.team.work.cells.now l.member.worker.context;
  told : Told (g.C.PhaseCells.cell l.team.work.cells.now) (g.C.PhaseCells.cost l.team.work.cells.now) l.team.work.share l.member.reports.items
      (g.C.PhaseCells.spent l.team.work.cells.now l.fn.member.worker.context) (g.C.PhaseCells.spent l.team.work.cells.now l.member.worker.context) l.held l.rows;
  few : length (drawn_by l.member.worker.seat) ≤ bound (drawn_by l.member.worker.seat);
  within : bound (drawn_by l.member.worker.seat) ≤ length l.team.work.table.now.parts;
  room : length l.team.work.table.now.parts ≤ vec_capacity l.member.reports;
  stopped : l.going ≡ false → AllOk l.member.reports.items → ⊥;
}

abbrev pub decreases-loop-drawn : goal.decreases-loop-drawn
decreases-loop-drawn g l = length l.team.work.table.now.parts - bound (drawn_by l.member.worker.seat)

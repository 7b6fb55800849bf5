use Rattle.std.proofs.Common.{refl, ap, ◌∙◌, sym, subst, arith, ◌+◌, ◌-◌, ◌<◌}
use Rattle.count_table.specs.Views.{worker_of, times}
use Rattle.count_table.specs.Seats.{WorkerState, PhaseId, IsWorker, IsReady, HoldsWithin}
use Rattle.count_table.specs.Plays.{Seat}
use Rattle.count_table.proofs.Totals.{times-without-le}
use Rattle.count_table.proofs.Counting.{releases_one}
use Rattle.count_table.proofs.Ending.{still_ready}
use Rattle.count_table.proofs.phase.Phase.release.Goals as goal

pub fetch_sub-requires : goal.fetch_sub-requires
fetch_sub-requires g c =
    let phase = ap (λ (x : WorkerState g.row.T.Denot). x.phase) c.seat.view_is ∙ c.requires.phase ∙ sym c.self.view_is in
    let words = c.self.invariant.0 in
    let buffers = ap (λ (x : PhaseId g.row.T.Denot). x.buffers) phase in
    let is_held = ap (λ (x : WorkerState g.row.T.Denot). times c.args.buffer x.holds) c.seat.view_is in
    let h : 0 < times c.args.buffer (worker_of c.seat.inside.seat.me.0).holds = (let r = c.requires.held in omega arith) in
    let in_phase = c.seat.invariant.1 c.args.buffer h in (
      ap (λ (x : PhaseId g.row.T.Denot). x.table) phase,
      omega arith,
      releases_one _ _ _ (worker_of c.seat.inside.seat.me.0) c.seat.invariant.0 c.args.buffer in_phase h,
    )

pub invariant_of-seat : goal.invariant_of-seat
invariant_of-seat g c =
    let is = c.fetch_sub.ensures.2.0 in
    subst (λ (m : Seat g.row.T.Denot). IsWorker m × HoldsWithin (worker_of m.0) × IsReady c.seat.inside.ready (worker_of m.0) m.1) (sym is)
    (refl, (λ b h. c.seat.invariant.1 b (let l = times-without-le (c.args.buffer + 1 - 1) b (worker_of c.seat.inside.seat.me.0).holds in omega arith)), still_ready c.seat.inside.ready (worker_of c.seat.inside.seat.me.0) _ c.seat.inside.seat.me.1 c.seat.invariant.2)

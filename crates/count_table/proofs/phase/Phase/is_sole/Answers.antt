use Rattle.std.proofs.Common.{ap, ◌∙◌, sym, arith, ◌<◌}
use Rattle.count_table.specs.Views.{worker_of, times}
use Rattle.count_table.specs.Seats.{WorkerState, PhaseId}
use Rattle.count_table.proofs.Counting.{looks_at}
use Rattle.count_table.proofs.phase.Phase.is_sole.Goals as goal

pub load-requires : goal.load-requires
load-requires g c =
    let phase = ap (λ (x : WorkerState g.row.T.Denot). x.phase) c.seat.view_is ∙ c.requires.phase ∙ sym c.self.view_is in
    let words = c.self.invariant.0 in
    let buffers = ap (λ (x : PhaseId g.row.T.Denot). x.buffers) phase in
    let is_held = ap (λ (x : WorkerState g.row.T.Denot). times c.args.buffer x.holds) c.seat.view_is in
    let h : 0 < times c.args.buffer (worker_of c.seat.inside.seat.me.0).holds = (let r = c.requires.held in omega arith) in
    let in_phase = c.seat.invariant.1 c.args.buffer h in (
      ap (λ (x : PhaseId g.row.T.Denot). x.table) phase,
      omega arith,
      looks_at _ _ _ (worker_of c.seat.inside.seat.me.0) c.seat.invariant.0 c.args.buffer in_phase h,
    )

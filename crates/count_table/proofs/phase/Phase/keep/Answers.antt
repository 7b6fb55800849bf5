use Rattle.std.proofs.Common.{ap, ◌∙◌, sym, arith, length}
use Rattle.count_table.specs.Views.{worker_of}
use Rattle.count_table.specs.Seats.{WorkerState, PhaseId}
use Rattle.count_table.proofs.Counting.{keeps_one}
use Rattle.count_table.proofs.phase.Phase.keep.Goals as goal

pub fetch_add-requires : goal.fetch_add-requires
fetch_add-requires g c =
    let phase = ap (λ (x : WorkerState g.row.T.Denot). x.phase) c.seat.view_is ∙ c.requires.phase ∙ sym c.self.view_is in
    let words = c.self.invariant.0 in
    let buffers = ap (λ (x : PhaseId g.row.T.Denot). x.buffers) phase in
    let mine = ap (λ (x : PhaseId g.row.T.Denot). x.buffers) c.self.view_is in
    let holds = ap (λ (x : WorkerState g.row.T.Denot). length x.holds) c.seat.view_is in
    let in_phase = c.requires.buffer in
    let room = c.requires.room in (
      ap (λ (x : PhaseId g.row.T.Denot). x.table) phase,
      omega arith,
      keeps_one _ _ _ (worker_of c.seat.inside.seat.me.0) c.seat.invariant.0 c.args.buffer (omega arith) (omega arith),
    )

use Rattle.std.proofs.Common.{ap, ◌∙◌, sym, arith}
use Rattle.count_table.specs.Views.{worker_of}
use Rattle.count_table.specs.Seats.{WorkerState, PhaseId}
use Rattle.count_table.proofs.Drawing.{draws}
use Rattle.count_table.proofs.phase.Phase.draw.Goals as goal

pub fetch_add-next-requires : goal.fetch_add-next-requires
fetch_add-next-requires g c =
    let phase = ap (λ (x : WorkerState g.row.T.Denot). x.phase) c.seat.view_is ∙ c.requires.phase ∙ sym c.self.view_is in
    let words = c.self.invariant.0 in (
      ap (λ (x : PhaseId g.row.T.Denot). x.table) phase,
      omega arith,
      draws _ _ _ (worker_of c.seat.inside.seat.me.0) c.seat.invariant.0 (ap (λ (x : WorkerState g.row.T.Denot). x.ended) c.seat.view_is ∙ c.requires.more),
    )

use Rattle.std.proofs.Common.{ap, ◌∙◌, sym, arith}
use Rattle.count_table.specs.Plays.{Seat}
use Rattle.count_table.specs.Views.{worker_of, frame_of}
use Rattle.count_table.specs.Seats.{WorkerState, FrameState, PhaseId}
use Rattle.count_table.proofs.Sitting.{moves, comes}
use Rattle.count_table.proofs.phase.Phase.leave.Goals as goal

pub split_seat-moved-requires : goal.split_seat-moved-requires
split_seat-moved-requires g c =
    let its = ap (λ (x : WorkerState g.row.T.Denot). x.phase) c.seat.view_is ∙ c.requires.phase.1 ∙ sym c.self.view_is in
    let words = c.self.invariant.0 in (
      ap (λ (x : PhaseId g.row.T.Denot). x.table) its,
      omega arith,
      moves _ c.seat.inside.seat.me (worker_of c.seat.inside.seat.me.0) c.seat.invariant.0,
    )

pub join_seat-requires : goal.join_seat-requires
join_seat-requires g c =
    let phase = ap (λ (x : FrameState g.row.T.Denot). x.phase) c.frame.view_is ∙ c.requires.phase.0 ∙ sym c.self.view_is in
    let its = ap (λ (x : WorkerState g.row.T.Denot). x.phase) c.seat.view_is ∙ c.requires.phase.1 ∙ sym c.self.view_is in
    let words = c.self.invariant.0 in
    let moved = c.split_seat-moved.ensures.4 in (
      ap (λ (x : PhaseId g.row.T.Denot). x.table) phase,
      c.split_seat-moved.ensures.3 ∙ ap (λ (x : PhaseId g.row.T.Denot). x.table) its,
      ap (λ (m : Seat g.row.T.Denot). m.1) moved,
      omega arith,
      comes _ _ c.frame.inside.seat.me c.split_seat-moved.result.me (frame_of c.frame.inside.seat.me.0) (worker_of c.seat.inside.seat.me.0) c.frame.invariant (ap (λ (m : Seat g.row.T.Denot). m.0) moved ∙ c.seat.invariant.0)
          (ap (λ (x : WorkerState g.row.T.Denot). x.holds) c.seat.view_is ∙ c.requires.holds),
    )

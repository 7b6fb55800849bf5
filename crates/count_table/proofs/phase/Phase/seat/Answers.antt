use Rattle.std.proofs.Common.{ap, ◌∙◌, sym, arith}
use Rattle.count_table.specs.Views.{frame_of}
use Rattle.count_table.specs.Seats.{FrameState, PhaseId}
use Rattle.count_table.proofs.Sitting.{sits}
use Rattle.count_table.proofs.phase.Phase.seat.Goals as goal

pub split_seat-seat-requires : goal.split_seat-seat-requires
split_seat-seat-requires g c =
    let phase = ap (λ (x : FrameState g.row.T.Denot). x.phase) c.frame.view_is ∙ c.requires.phase ∙ sym c.self.view_is in
    let words = c.self.invariant.0 in
    let made = ap (λ (x : FrameState g.row.T.Denot). x.made) c.frame.view_is in
    let room = c.requires.room in (
      ap (λ (x : PhaseId g.row.T.Denot). x.table) phase,
      omega arith,
      sits _ _ (frame_of c.frame.inside.seat.me.0) c.frame.invariant (omega arith),
    )

use Rattle.std.proofs.Common.{◌∙◌, sym, subst, arith}
use Rattle.phase_draws.specs.Crews.{AreRooms}
use Rattle.phase_draws.proofs.Teams.{rooms_push}
use Rattle.phase_draws.proofs.rooms.rooms_for.Goals as goal

pub loop-preserved : goal.loop-preserved
loop-preserved c =
    let fits = c.in_ok-room.ensures.exact in (
      subst (λ l. AreRooms c.args.chunks l) (sym c.push_reserved.ensures.items)
          (rooms_push c.args.chunks c.loop.others.items c.in_ok-room.room c.loop.invariant.0 c.in_ok-room.ensures.items (omega arith)),
      omega arith,
      c.push_reserved.ensures.capacity ∙ c.loop.invariant.2,
    )

use Rattle.std.proofs.Common.{true, refl}
use Rattle.counted_code.specs.Loops.{count_phase}
use Rattle.run_loops.specs.declared.state.State.{State}
use Rattle.run_loops.specs.Running.{IsAt}
use Rattle.run_loops.proofs.InPlace.{reused_stands}
use Rattle.run_loops.proofs.in_place.begin_in_place.Goals as goal

pub returns-clause-begun : goal.returns-clause-begun
returns-clause-begun c m n long at =
    let u = c.count.new.state in
    let v : State = record { frames = u.frames; heap = c.claim_over.new.heap; phases = u.phases } in
    let counted : IsAt u (count_phase true n m) = c.in_ok-count.ensures.stands m n long at in
    reused_stands c.claim_over.result u v (count_phase true n m) refl (c.claim_over.ensures.claimed (count_phase true n m) counted.heap) counted

use Rattle.std.proofs.Common.{refl, subst}
use Rattle.std.specs.Prelude.{not}
use Rattle.counted_code.specs.Loops.{count_phase}
use Rattle.counted_code.specs.Values.{is_small}
use Rattle.sac_base.specs.Arrays.{size}
use Rattle.run_loops.specs.declared.state.State.{State}
use Rattle.run_loops.specs.Running.{IsAt}
use Rattle.run_loops.proofs.CellPhases.{claimed_begun}
use Rattle.run_loops.proofs.cells.begin.Goals as goal

pub returns-clause-begun : goal.returns-clause-begun
returns-clause-begun c m n long at =
    let u = c.count.new.state in
    let v : State = record { frames = u.frames; heap = c.claim.new.heap; phases = u.phases } in
    let small = is_small c.args.shape.now in
    let counted : IsAt u (count_phase (not small) n m) = subst (λ b. IsAt u (count_phase (not b) n m)) c.is_small.ensures (c.in_ok-count.ensures.stands m n long at) in
    claimed_begun c.in_ok-target.target u v small (size c.args.shape.now) (count_phase (not small) n m) counted refl
    (c.in_ok-target.ensures.claimed (count_phase (not small) n m) counted.heap)

use Rattle.std.proofs.Common.{◌∙◌, None, true, refl, subst, sym}
use Rattle.counted_code.specs.Loops.{Inside, claim, count_phase}
use Rattle.counted_code.specs.Values.{is_small}
use Rattle.sac_base.specs.Arrays.{size}
use Rattle.run_loops.specs.declared.state.State.{State}
use Rattle.run_loops.specs.Loops.{IsBegun}
use Rattle.run_loops.proofs.CellPhases.{claimed_begun}
use Rattle.run_loops.proofs.folds.begin_fold.Goals as goal

pub returns-then-is_small-clause-begun : goal.returns-then-is_small-clause-begun
returns-then-is_small-clause-begun c m n long at =
    let u = c.count.new.state in
    let len = size c.args.shape.now in
    let k = count_phase true n m in
    subst (λ b. IsBegun Inside u (claim b None len k)) (sym (sym c.is_small.ensures ∙ c.if-is_small.true))
    (record { target = refl; rest = refl; stands = c.in_ok-count.ensures.stands m n long at })

pub returns-clause-begun : goal.returns-clause-begun
returns-clause-begun c m n long at =
    let u = c.count.new.state in
    let v : State = record { frames = u.frames; heap = c.claim.new.heap; phases = u.phases } in
    let counted = c.in_ok-count.ensures.stands m n long at in
    claimed_begun c.in_ok-target.target u v (is_small c.args.shape.now) (size c.args.shape.now) (count_phase true n m) counted refl
    (c.in_ok-target.ensures.claimed (count_phase true n m) counted.heap)

use Rattle.std.proofs.Common.{ℕ, true, Ok, refl, subst, sym}
use Rattle.counted_code.specs.Loops.{count_phase}
use Rattle.counted_code.specs.Values.{is_small}
use Rattle.run_loops.proofs.CellPhases.{count_stands}
use Rattle.run_loops.specs.declared.state.State.{State}
use Rattle.sac_base.specs.Arrays.{size}
use Rattle.phase_books.specs.Homes.{WillHave}
use Rattle.phase_books.proofs.Beginning.{begun_claim}
use Rattle.phase_books.proofs.results.begin_phase.Goals as goal

pub returns-clause-begun : goal.returns-clause-begun
returns-clause-begun c m n long at =
    let s = c.args.state.now in
    let t : State = record { frames = s.frames; heap = s.heap; phases = c.hand_out-handed_out.new.self } in
    let counted = count_stands s t true m n c.args.positions long refl refl c.in-Some.ensures.counted at in
    begun_claim (Ok c.in_ok-target.target) t c.claim.new.heap (is_small c.args.shape.now) (size c.args.shape.now) (count_phase true n m) counted.phases (c.in_ok-target.ensures.claimed (count_phase true n m) counted.heap)

pub returns-clause-tally : goal.returns-clause-tally
returns-clause-tally c n long = subst (λ (k : ℕ). WillHave k c.in-Some.count c.hand_out-handed_out.new.self) (sym long) c.in-Some.ensures.tally

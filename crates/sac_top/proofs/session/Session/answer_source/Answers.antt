use Rattle.std.proofs.Common.{refl, subst}
use Rattle.sac_top.specs.Steps
use Rattle.sac_top.specs.Steps.{IsJudged}
use Rattle.sac_top.proofs.Whole.{answer_accepted, accepted_fetched, none_fetched, same_calls}
use Rattle.sac_top.proofs.Tracing.{stays, accepted_traced}
use Rattle.sac_top.proofs.session.Session.answer_source.Goals as goal

pub answer_program-requires-clause-ready : goal.answer_program-requires-clause-ready
answer_program-requires-clause-ready g c κs within =
    let judged = subst (IsJudged c.args.source.now) c.in-Accepted.is c.in_ok-checked.ensures in
    record { workers = c.requires.workers; sized = c.requires.sized; read = (c.args.source.now, judged.0); bases = judged.1 }

pub returns-in_err-checked-clause-calls : goal.returns-in_err-checked-clause-calls
returns-in_err-checked-clause-calls g c = none_fetched _ _ _ _

pub returns-in-Accepted-clause-answer : goal.returns-in-Accepted-clause-answer
returns-in-Accepted-clause-answer g c =
    answer_accepted _ _ _ _ _ _ _ _ _ (subst (IsJudged c.args.source.now) c.in-Accepted.is c.in_ok-checked.ensures).0
    (same_calls g.F.Files.calls _ _ _ c.answer_program.ensures.calls) c.answer_program.ensures.answer

pub returns-in-Accepted-clause-calls : goal.returns-in-Accepted-clause-calls
returns-in-Accepted-clause-calls g c =
    accepted_fetched _ _ _ _ _ _ (subst (IsJudged c.args.source.now) c.in-Accepted.is c.in_ok-checked.ensures).0
    (same_calls g.F.Files.calls _ _ _ c.answer_program.ensures.calls)

pub returns-in-Refused-clause-answer : goal.returns-in-Refused-clause-answer
returns-in-Refused-clause-answer g c =
    (0, Steps.refused _ (subst (IsJudged c.args.source.now) c.in-Refused.is c.in_ok-checked.ensures), refl)

pub returns-in_err-checked-clause-left : goal.returns-in_err-checked-clause-left
returns-in_err-checked-clause-left g c = stays _ c.requires.new

pub returns-in-Accepted-clause-traced : goal.returns-in-Accepted-clause-traced
returns-in-Accepted-clause-traced g c =
    λ runs. accepted_traced _ _ _ _ _ _ _ _ (subst (IsJudged c.args.source.now) c.in-Accepted.is c.in_ok-checked.ensures).0 (c.answer_program.ensures.traced runs)

pub returns-in-Refused-clause-left : goal.returns-in-Refused-clause-left
returns-in-Refused-clause-left g c = stays _ c.requires.new

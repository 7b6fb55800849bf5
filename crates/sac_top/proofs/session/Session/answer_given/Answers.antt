use Rattle.std.proofs.Common.{subst}
use Rattle.data_text.specs.Found.{Tells}
use Rattle.sac_top.specs.Sessions.{asked_of, program_of}
use Rattle.sac_top.proofs.Tracing.{runs_on, given_traced}
use Rattle.sac_top.proofs.session.Session.answer_given.Goals as goal

pub returns-in-Ok-clause-answer : goal.returns-in-Ok-clause-answer
returns-in-Ok-clause-answer g c =
    λ r tells. runs_on c.answer_run.result (asked_of c.args.job.now) (program_of c.args.job.now) _ _ r (subst (λ m. Tells m r) c.in-Ok.is tells) c.answer_run.ensures.answer

pub returns-in-Ok-clause-traced : goal.returns-in-Ok-clause-traced
returns-in-Ok-clause-traced g c =
    λ r tells. given_traced _ _ _ r _ _ _ _ (subst (λ m. Tells m r) c.in-Ok.is tells) c.answer_run.ensures.answer c.answer_run.ensures.traced

use Rattle.sac_top.specs.Sessions.{asked_of}
use Rattle.sac_top.proofs.Tracing.{ends_as, whatever}
use Rattle.sac_top.proofs.session.Session.answer_run.Goals as goal

pub returns-clause-answer : goal.returns-clause-answer
returns-clause-answer g c = ends_as _ (asked_of c.args.job.now) _ _ _ c.in_ok-outcome.ensures.outcome c.answer_outcome.ensures

pub returns-clause-traced : goal.returns-clause-traced
returns-clause-traced g c = whatever _ _ c.in_ok-outcome.ensures.traced

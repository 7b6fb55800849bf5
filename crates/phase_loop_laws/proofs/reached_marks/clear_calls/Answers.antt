use Rattle.phase_loop_laws.proofs.reached_marks.Standing.{clear_match, clear_spend}
use Rattle.phase_loop_laws.proofs.reached_marks.clear_calls.Goals as goal

pub returns-clause-meaning : goal.returns-clause-meaning
returns-clause-meaning c code counted reached clear turns left nest g is vs s h others owns = clear_match code counted reached clear turns left nest g is vs s h others owns

pub returns-clause-spending : goal.returns-clause-spending
returns-clause-spending c code counted reached clear turns left nest g is vs s h others owns = clear_spend code counted reached clear turns left nest g is vs s h others owns

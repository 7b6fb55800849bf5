use Rattle.phase_loop_laws.proofs.reached_marks.Spending.{meaning_same, spending_same}
use Rattle.phase_loop_laws.proofs.reached_marks.removal_keeps_calls.Goals as goal

pub returns-clause-meaning : goal.returns-clause-meaning
returns-clause-meaning c code turns left nest = meaning_same code turns left nest

pub returns-clause-spending : goal.returns-clause-spending
returns-clause-spending c code turns left nest = spending_same code turns left nest

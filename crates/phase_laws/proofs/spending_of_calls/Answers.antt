use Rattle.core_ir.specs.Outcome.{run_deeper, run_inline}
use Rattle.counted_code.specs.Outcome.{deeper_does, inline_does}
use Rattle.counted_code.specs.Terms.{core_of_code}
use Rattle.counted_laws.proofs.Functions.{calls_matched, inline_matched, deeper_matched}
use Rattle.phase_laws.specs.Spending.{deeper_spends}
use Rattle.phase_laws.proofs.Functions.{level_spent, deeper_spent}
use Rattle.phase_laws.proofs.spending_of_calls.Goals as goal

pub returns-clause-meaning : goal.returns-clause-meaning
returns-clause-meaning c code counted unmarked turns left nest =
    let outers = deeper_matched code counted unmarked turns left in
    let value = run_deeper (core_of_code code) turns left in
    calls_matched code counted unmarked turns (deeper_does code turns left) (inline_does code turns (deeper_does code turns left) nest) value (run_inline (core_of_code code) turns value nest) outers
    (inline_matched code counted unmarked turns (deeper_does code turns left) value outers nest)

pub returns-clause-spending : goal.returns-clause-spending
returns-clause-spending c code counted unmarked turns left nest =
    level_spent code counted unmarked turns (deeper_does code turns left) (run_deeper (core_of_code code) turns left) (deeper_spends code turns left) (deeper_matched code counted unmarked turns left) (deeper_spent code counted unmarked turns left) nest

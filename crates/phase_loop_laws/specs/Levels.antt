-- What calls do, mean and spend, with the levels that are left.
use Rattle.std.specs.Prelude.{ℕ}
use Rattle.core_ir.specs.Meaning.{CallMeaning}
use Rattle.core_ir.specs.Outcome.{call_by, run_deeper, run_inline}
use Rattle.counted_code.specs.Machine.{DoesCalls}
use Rattle.counted_code.specs.Outcome.{call_does, deeper_does, inline_does}
use Rattle.counted_code.specs.Terms.{CodeProgram, core_of_code}
use Rattle.phase_laws.specs.Spending.{CallSpending, calls_spend, deeper_spends, inline_spends}

abbrev pub does_at : CodeProgram → (turns left nest : ℕ) → DoesCalls
does_at code turns left nest =
    call_does code (deeper_does code turns left) (inline_does code turns (deeper_does code turns left) nest)

abbrev pub means_at : CodeProgram → (turns left nest : ℕ) → CallMeaning
means_at code turns left nest =
    call_by (core_of_code code) (run_deeper (core_of_code code) turns left)
    (run_inline (core_of_code code) turns (run_deeper (core_of_code code) turns left) nest)

abbrev pub spends_at : CodeProgram → (turns left nest : ℕ) → CallSpending
spends_at code turns left nest =
    calls_spend code (deeper_spends code turns left) (inline_spends code turns (run_deeper (core_of_code code) turns left) (deeper_spends code turns left) nest)

use Rattle.counted_laws.proofs.placing.Cores.{same_core_code, no_marks}
use Rattle.counted_laws.proofs.placing.Derived.{well_counted, prompt}
use Rattle.counted_laws.proofs.placing.placing_is_right.Goals as goal

pub returns-clause-counted : goal.returns-clause-counted
returns-clause-counted c core formed = well_counted core formed

pub returns-clause-prompt : goal.returns-clause-prompt
returns-clause-prompt c core formed = prompt core formed

pub returns-clause-unmarked : goal.returns-clause-unmarked
returns-clause-unmarked c core = no_marks core.functions

pub returns-clause-same : goal.returns-clause-same
returns-clause-same c core = same_core_code core

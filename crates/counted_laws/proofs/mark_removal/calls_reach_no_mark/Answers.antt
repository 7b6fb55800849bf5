use Rattle.counted_laws.proofs.mark_removal.Reached.{calls_same, level_same}
use Rattle.counted_laws.proofs.mark_removal.calls_reach_no_mark.Goals as goal

pub returns-clause-calls : goal.returns-clause-calls
returns-clause-calls c code reached clear turns left nest group is = calls_same code reached clear turns left nest group is

pub returns-clause-levels : goal.returns-clause-levels
returns-clause-levels c code reached clear turns left group is = level_same code reached clear turns left group is

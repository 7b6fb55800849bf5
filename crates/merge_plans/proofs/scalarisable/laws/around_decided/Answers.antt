use Rattle.merge_plans.proofs.scalarisable.Decided.{totals_decided, uses_decided}
use Rattle.merge_plans.proofs.scalarisable.laws.around_decided.Goals as goal

pub returns-clause-uses : goal.returns-clause-uses
returns-clause-uses c = uses_decided

pub returns-clause-totals : goal.returns-clause-totals
returns-clause-totals c = totals_decided

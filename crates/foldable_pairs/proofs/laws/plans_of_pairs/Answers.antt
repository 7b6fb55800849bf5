use Rattle.foldable_pairs.proofs.Verdicts.{holder_held, plan_takes, pair_is}
use Rattle.foldable_pairs.proofs.laws.plans_of_pairs.Goals as goal

pub returns-clause-holders : goal.returns-clause-holders
returns-clause-holders c = holder_held

pub returns-clause-plans : goal.returns-clause-plans
returns-clause-plans c = plan_takes

pub returns-clause-pairs : goal.returns-clause-pairs
returns-clause-pairs c = pair_is

use Rattle.std.proofs.Common.{ap, length}
use Rattle.merge_plans.proofs.InnerLoops.{parts_counted}
use Rattle.merge_plans.proofs.judging.count_of.Goals as goal

pub returns : goal.returns
returns c = parts_counted c.args.inner.now (length c.as_slice-parts.result.now) (ap length c.as_slice-parts.ensures.value)

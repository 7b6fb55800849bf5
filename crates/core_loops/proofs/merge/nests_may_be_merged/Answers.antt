use Rattle.core_loops.proofs.merge.Nested.{merged}
use Rattle.core_loops.proofs.merge.nests_may_be_merged.Goals as goal

pub returns : goal.returns
returns c = merged

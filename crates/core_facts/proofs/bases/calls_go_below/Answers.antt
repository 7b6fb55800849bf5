use Rattle.core_facts.proofs.bases.Backward.{below}
use Rattle.core_facts.proofs.bases.calls_go_below.Goals as goal

pub returns : goal.returns
returns c = below

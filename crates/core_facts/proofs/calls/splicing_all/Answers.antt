use Rattle.core_facts.proofs.calls.Spliced.{spliced_all}
use Rattle.core_facts.proofs.calls.splicing_all.Goals as goal

pub returns : goal.returns
returns c = spliced_all

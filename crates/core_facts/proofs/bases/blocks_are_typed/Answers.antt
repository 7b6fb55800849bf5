use Rattle.core_facts.proofs.bases.Whole.{block_typed}
use Rattle.core_facts.proofs.bases.blocks_are_typed.Goals as goal

pub returns : goal.returns
returns c = λ core calls turns b g ts e vs typed h d k p. block_typed core calls turns typed b g ts e vs h d k p

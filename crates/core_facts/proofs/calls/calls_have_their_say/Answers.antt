use Rattle.core_facts.proofs.calls.Agreeing.{agreeing}
use Rattle.core_facts.proofs.calls.calls_have_their_say.Goals as goal

pub returns : goal.returns
returns c = agreeing

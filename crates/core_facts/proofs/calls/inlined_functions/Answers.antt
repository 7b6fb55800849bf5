use Rattle.core_facts.proofs.calls.Nested.{outcomes_nested}
use Rattle.core_facts.proofs.calls.inlined_functions.Goals as goal

pub returns : goal.returns
returns c = outcomes_nested

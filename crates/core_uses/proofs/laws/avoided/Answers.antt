use Rattle.core_uses.proofs.Decided.{block_decided, right_decided, list_decided}
use Rattle.core_uses.proofs.laws.avoided.Goals as goal

pub returns-clause-blocks : goal.returns-clause-blocks
returns-clause-blocks c = block_decided

pub returns-clause-rights : goal.returns-clause-rights
returns-clause-rights c = right_decided

pub returns-clause-lists : goal.returns-clause-lists
returns-clause-lists c = list_decided

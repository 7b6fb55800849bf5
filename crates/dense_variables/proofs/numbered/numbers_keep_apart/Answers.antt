use Rattle.dense_variables.proofs.numbered.Numbered.{numbered_order}
use Rattle.dense_variables.proofs.numbered.Apart.{kept_apart}
use Rattle.dense_variables.proofs.numbered.numbers_keep_apart.Goals as goal

pub returns-clause-order : goal.returns-clause-order
returns-clause-order c = numbered_order

pub returns-clause-apart : goal.returns-clause-apart
returns-clause-apart c = kept_apart

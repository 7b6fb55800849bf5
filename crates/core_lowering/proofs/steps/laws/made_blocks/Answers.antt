use Rattle.core_lowering.proofs.steps.Accumulated.{made_stmt, made_block}
use Rattle.core_lowering.proofs.steps.laws.made_blocks.Goals as goal

pub returns-clause-one : goal.returns-clause-one
returns-clause-one c = made_stmt

pub returns-clause-several : goal.returns-clause-several
returns-clause-several c = made_block

use Rattle.core_lowering.proofs.steps.Accumulated.{made_bound, made_maybe, made_gen, made_gens}
use Rattle.core_lowering.proofs.steps.laws.made_generators.Goals as goal

pub returns-clause-bounds : goal.returns-clause-bounds
returns-clause-bounds c = made_bound

pub returns-clause-steps : goal.returns-clause-steps
returns-clause-steps c = made_maybe

pub returns-clause-one : goal.returns-clause-one
returns-clause-one c = made_gen

pub returns-clause-several : goal.returns-clause-several
returns-clause-several c = made_gens

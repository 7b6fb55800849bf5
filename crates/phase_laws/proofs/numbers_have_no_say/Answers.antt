use Rattle.phase_laws.proofs.Blind.{block_blind, right_blind, gens_blind, parts_blind, cells_blind, calls_blind}
use Rattle.phase_laws.proofs.numbers_have_no_say.Goals as goal

pub returns-clause-blocks : goal.returns-clause-blocks
returns-clause-blocks c calls turns blind t e = block_blind calls turns blind t e

pub returns-clause-right_sides : goal.returns-clause-right_sides
returns-clause-right_sides c calls turns blind r s e = right_blind calls turns blind r s e

pub returns-clause-generators : goal.returns-clause-generators
returns-clause-generators c calls turns blind gens e h ranges v = gens_blind calls turns blind gens e h ranges v

pub returns-clause-parts : goal.returns-clause-parts
returns-clause-parts c calls turns blind parts e v = parts_blind calls turns blind parts e v

pub returns-clause-cells : goal.returns-clause-cells
returns-clause-cells c form source blind t place vs = cells_blind form source blind t place vs

pub returns-clause-calls : goal.returns-clause-calls
returns-clause-calls c code turns left nest = calls_blind code turns left nest

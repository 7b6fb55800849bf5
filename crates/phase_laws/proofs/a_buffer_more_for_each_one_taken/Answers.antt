use Rattle.phase_laws.proofs.Growing.{block_grows, gens_grow, parts_grow, cell_grows, cells_grow, calls_grow}
use Rattle.phase_laws.proofs.a_buffer_more_for_each_one_taken.Goals as goal

pub returns-clause-blocks : goal.returns-clause-blocks
returns-clause-blocks c calls turns grow t e = block_grows calls turns grow t e

pub returns-clause-generators : goal.returns-clause-generators
returns-clause-generators c calls turns grow gens e h ranges v = gens_grow calls turns grow gens e h ranges v

pub returns-clause-parts : goal.returns-clause-parts
returns-clause-parts c calls turns grow parts e v = parts_grow calls turns grow parts e v

pub returns-clause-cell : goal.returns-clause-cell
returns-clause-cell c form source grows = cell_grows form source grows

pub returns-clause-cells : goal.returns-clause-cells
returns-clause-cells c form source grow t place vs = cells_grow form source grow t place vs

pub returns-clause-calls : goal.returns-clause-calls
returns-clause-calls c code turns left nest = calls_grow code turns left nest

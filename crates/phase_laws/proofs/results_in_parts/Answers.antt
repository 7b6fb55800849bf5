use Rattle.phase_laws.proofs.Parts.{cells_as_many, made_in_parts}
use Rattle.phase_laws.proofs.results_in_parts.Goals as goal

pub returns-clause-as_many : goal.returns-clause-as_many
returns-clause-as_many c form source writing place vs h = cells_as_many form source writing place vs h

pub returns-clause-parts : goal.returns-clause-parts
returns-clause-parts c each_cell vs us cs ds same = made_in_parts each_cell vs us cs ds same

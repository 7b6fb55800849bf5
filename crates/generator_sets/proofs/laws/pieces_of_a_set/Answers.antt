use Rattle.generator_sets.proofs.Reading.{read_members, read_disjoint}
use Rattle.generator_sets.proofs.laws.pieces_of_a_set.Goals as goal

pub returns-clause-members : goal.returns-clause-members
returns-clause-members c = read_members

pub returns-clause-disjoint : goal.returns-clause-disjoint
returns-clause-disjoint c = read_disjoint

use Rattle.phase_laws.proofs.Uncut.{block_uncut, right_uncut, deeper_uncut, nested_uncut, run_uncut}
use Rattle.phase_laws.proofs.phases_without_a_cut.Goals as goal

pub returns-clause-blocks : goal.returns-clause-blocks
returns-clause-blocks c calls turns t e h = block_uncut calls turns t e h

pub returns-clause-right_sides : goal.returns-clause-right_sides
returns-clause-right_sides c calls turns r s e h = right_uncut calls turns r s e h

pub returns-clause-functions : goal.returns-clause-functions
returns-clause-functions c code turns left nest = (deeper_uncut code turns left, nested_uncut code turns left nest)

pub returns-clause-runs : goal.returns-clause-runs
returns-clause-runs c code args caps = run_uncut code args caps

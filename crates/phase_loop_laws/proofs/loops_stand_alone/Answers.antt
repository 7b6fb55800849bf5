use Rattle.phase_loop_laws.proofs.Standing.{gens_stand, parts_stand}
use Rattle.phase_loop_laws.proofs.loops_stand_alone.Goals as goal

pub returns-clause-with_loops : goal.returns-clause-with_loops
returns-clause-with_loops c code counted unmarked turns left nest h e ρ live backed shows gens plain counts m form ranges =
    gens_stand code counted unmarked turns left nest h e ρ live backed shows gens plain counts m form ranges

pub returns-clause-parted_loops : goal.returns-clause-parted_loops
returns-clause-parted_loops c code counted unmarked turns left nest h e ρ live backed shows parts plain counts base shape =
    parts_stand code counted unmarked turns left nest h e ρ live backed shows parts plain counts base shape

use Rattle.phase_loop_laws.proofs.reached_marks.Standing.{clear_gens_stand, clear_parts_stand}
use Rattle.phase_loop_laws.proofs.reached_marks.clear_loops_stand_alone.Goals as goal

pub returns-clause-with_loops : goal.returns-clause-with_loops
returns-clause-with_loops c code counted reached clear turns left nest h e ρ live backed shows gens plain calls counts m form ranges =
    clear_gens_stand code counted reached clear turns left nest gens plain calls live counts ρ form ranges h m e backed shows

pub returns-clause-parted_loops : goal.returns-clause-parted_loops
returns-clause-parted_loops c code counted reached clear turns left nest h e ρ live backed shows parts plain calls counts base shape =
    clear_parts_stand code counted reached clear turns left nest parts plain calls live counts ρ base shape h e backed shows

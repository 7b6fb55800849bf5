use Rattle.phase_loop_laws.proofs.reached_marks.Standing.{clear_gens_alone, clear_parts_alone}
use Rattle.phase_loop_laws.proofs.reached_marks.clear_cells_stand_alone.Goals as goal

pub returns-clause-with_loops : goal.returns-clause-with_loops
returns-clause-with_loops c code counted reached clear turns left nest gens plain calls live counts h k e ρ holding readable form ranges =
    clear_gens_alone code counted reached clear turns left nest gens plain calls live counts ρ form ranges h k e holding readable

pub returns-clause-parted_loops : goal.returns-clause-parted_loops
returns-clause-parted_loops c code counted reached clear turns left nest parts plain calls live counts h e ρ holding readable base shape =
    clear_parts_alone code counted reached clear turns left nest parts plain calls live counts ρ base shape h e holding readable

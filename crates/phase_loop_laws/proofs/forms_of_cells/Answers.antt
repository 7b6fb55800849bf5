use Rattle.phase_loop_laws.proofs.Forms.{with_forms, part_forms}
use Rattle.phase_loop_laws.proofs.forms_of_cells.Goals as goal

pub returns-clause-with_loops : goal.returns-clause-with_loops
returns-clause-with_loops c form gs ranges = with_forms form gs ranges

pub returns-clause-parted_loops : goal.returns-clause-parted_loops
returns-clause-parted_loops c base shape parts = part_forms base shape parts

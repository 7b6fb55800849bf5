use Rattle.phase_loop_laws.proofs.Results.{array_made, parts_made}
use Rattle.phase_loop_laws.proofs.arrays_of_workers.Goals as goal

pub returns-clause-with_loops : goal.returns-clause-with_loops
returns-clause-with_loops c old background p n width cell indices es end is = array_made cell indices old background p n width es end is

pub returns-clause-parted_loops : goal.returns-clause-parted_loops
returns-clause-parted_loops c base shape cell indices es end is = parts_made cell indices base shape es end is

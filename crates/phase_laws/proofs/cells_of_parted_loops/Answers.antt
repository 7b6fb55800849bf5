use Rattle.phase_laws.proofs.Loops.{parts_leave, readable_in}
use Rattle.phase_laws.proofs.Whole.{parts_spend}
use Rattle.phase_laws.proofs.cells_of_parted_loops.Goals as goal

pub returns : goal.returns
returns c context parts unmarked live counted h e ρ holding readable base shape v l owns same =
    parts_leave context parts (parts_spend context parts unmarked) live counted l e ρ holding (readable_in h l e ρ holding live readable owns same) base shape v

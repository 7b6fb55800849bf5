use Rattle.phase_laws.proofs.Loops.{gens_leave, readable_in}
use Rattle.phase_laws.proofs.Whole.{gens_spend}
use Rattle.phase_laws.proofs.cells_of_with_loops.Goals as goal

pub returns : goal.returns
returns c context gens unmarked live counted h k e ρ holding readable form ranges v l owns same =
    gens_leave context gens (gens_spend context gens unmarked) live counted k l e ρ holding (readable_in h l e ρ holding live readable owns same) form ranges v

use Rattle.phase_loop_laws.proofs.Jobs.{phase_ends}
use Rattle.phase_loop_laws.proofs.phases_of_workers.Goals as goal

pub returns : goal.returns
returns c m j phase cell takes stands base shape es end is = phase_ends m j phase cell takes stands base shape es end is

use Rattle.phase_loop_laws.proofs.Jobs.{phase_settles, phase_fails}
use Rattle.phase_loop_laws.proofs.phases_in_order.Goals as goal

pub returns-clause-values : goal.returns-clause-values
returns-clause-values c m j phase cell takes stands cs is = phase_settles m j phase cell takes stands cs is

pub returns-clause-fault : goal.returns-clause-fault
returns-clause-fault c m j phase cell takes stands f is = phase_fails m j phase cell takes stands f is

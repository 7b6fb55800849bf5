use Rattle.core_lowering.proofs.acceptance.Cores.{core_well_formed, core_outcome}
use Rattle.core_lowering.proofs.acceptance.laws.accepted_core.Goals as goal

pub returns : goal.returns
returns c = record { well_formed = core_well_formed; outcome = core_outcome }

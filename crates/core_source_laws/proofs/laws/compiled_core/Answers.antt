use Rattle.core_source_laws.proofs.Cores.{core_well_formed, core_outcome, core_main}
use Rattle.core_source_laws.proofs.laws.compiled_core.Goals as goal

pub returns : goal.returns
returns c = record { well_formed = core_well_formed; outcome = core_outcome; main = core_main }

use Rattle.core_source_laws.proofs.Read.{formed, few}
use Rattle.core_source_laws.proofs.laws.read_programs.Goals as goal

pub returns : goal.returns
returns c = record { formed = formed; few = few }

use Rattle.core_ir.proofs.Coincide.{same_on}
use Rattle.core_ir.proofs.laws.coincidence.Goals as goal

pub returns : goal.returns
returns c = same_on

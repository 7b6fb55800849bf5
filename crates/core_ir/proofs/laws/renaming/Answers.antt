use Rattle.core_ir.proofs.Renamed.{renamed}
use Rattle.core_ir.proofs.laws.renaming.Goals as goal

pub returns : goal.returns
returns c = renamed

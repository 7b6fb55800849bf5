use Rattle.core_ir.proofs.Splice.{splice}
use Rattle.core_ir.proofs.laws.splicing.Goals as goal

pub returns : goal.returns
returns c = splice

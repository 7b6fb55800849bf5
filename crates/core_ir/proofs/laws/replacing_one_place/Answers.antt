use Rattle.core_ir.specs.Known.{SameWhere}
use Rattle.core_ir.proofs.Edited.{edited}
use Rattle.core_ir.proofs.laws.replacing_one_place.Goals as goal

pub returns : goal.returns
returns c = λ call turns k b c h n e p. edited call turns (SameWhere call turns) (λ k b c same. same) h n e p

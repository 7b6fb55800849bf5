use Rattle.std.proofs.Common.{◌∙◌, sym}
use Rattle.code_equality.proofs.Extents.{same_naturals}
use Rattle.code_equality.proofs.leaves.same_extents.Goals as goal

pub returns : goal.returns
returns c = λ t. same_naturals c.args.a.now c.args.b.now (sym c.extents.ensures.value ∙ c.same_cells.ensures t ∙ c.extents-2.ensures.value)

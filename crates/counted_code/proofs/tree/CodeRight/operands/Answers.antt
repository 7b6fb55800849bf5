use Rattle.std.proofs.Common.{ap, sym, ◌∙◌}
use Rattle.core_ir.specs.Scopes.{right_uses}
use Rattle.counted_code.specs.Terms.{core_of_right}
use Rattle.counted_code.specs.View.{code_right_term}
use Rattle.counted_code.proofs.Operations.{with_reads, parted_reads}
use Rattle.counted_code.proofs.tree.CodeRight.operands.Goals as goal

pub returns-in-With : goal.returns-in-With
returns-in-With c =
    c.operands.ensures ∙ with_reads c.in-With.with ∙ ap (λ r. right_uses (core_of_right (code_right_term r))) (sym c.in-With.is)

pub returns-in-Parted : goal.returns-in-Parted
returns-in-Parted c =
    c.operands-in-Parted.ensures ∙ parted_reads c.in-Parted.parted ∙ ap (λ r. right_uses (core_of_right (code_right_term r))) (sym c.in-Parted.is)

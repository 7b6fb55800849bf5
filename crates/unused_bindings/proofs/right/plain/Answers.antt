use Rattle.std.proofs.Common.{◌∙◌, ap}
use Rattle.core_ir.specs.View.{right_term}
use Rattle.fact_table.specs.Table.{facts_of}
use Rattle.removal_rules.specs.Total.{removable_shaped}
use Rattle.unused_bindings.proofs.Rights.{shaped_is}
use Rattle.core_facts.specs.Facts.{Fact}
use Rattle.unused_bindings.proofs.right.plain.Goals as goal

pub returns-clause-value : goal.returns-clause-value
returns-clause-value c =
    let r = right_term c.args.right in
    let k = facts_of c.args.table.now in
    c.has_value-has_value.ensures ∙ ap (λ (f : Fact). removable_shaped f.shape r k) c.in_ok-known.ensures ∙ shaped_is r k

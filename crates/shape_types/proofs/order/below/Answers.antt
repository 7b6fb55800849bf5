use Rattle.std.proofs.Common.{◌∙◌, sym}
use Rattle.shape_types.proofs.Orders.{inclusion, below_from_inclusion}
use Rattle.shape_types.proofs.order.below.Goals as goal

pub returns-clause-order : goal.returns-clause-order
returns-clause-order c =
    let e = c.is_type_below.ensures in
    (λ t. inclusion c.args.a.now c.args.b.now (sym e ∙ t), λ h. e ∙ below_from_inclusion c.args.a.now c.args.b.now h)

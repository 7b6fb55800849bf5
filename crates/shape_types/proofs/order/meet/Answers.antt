use Rattle.std.proofs.Common.{◌∙◌, sym, refl}
use Rattle.shape_types.proofs.Orders.{common_form, overlap_from_below, overlap_from_above}
use Rattle.shape_types.proofs.order.meet.Goals as goal

pub returns-then-below-clause-some : goal.returns-then-below-clause-some
returns-then-below-clause-some c =
    let a = c.args.a.now in
    let b = c.args.b.now in
    (λ _. common_form a b (overlap_from_below a b (sym c.below.ensures.value ∙ c.if-below.true)), λ _. refl)

pub returns-then-below-2-clause-some : goal.returns-then-below-2-clause-some
returns-then-below-2-clause-some c =
    let a = c.args.a.now in
    let b = c.args.b.now in
    (λ _. common_form a b (overlap_from_above a b (sym c.below-else-below.ensures.value ∙ c.if-below-2.true)), λ _. refl)

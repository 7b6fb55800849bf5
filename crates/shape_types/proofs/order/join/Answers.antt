use Rattle.std.proofs.Common.{◌≡◌, ◌∙◌, true, subst, sym}
use Rattle.sac_base.specs.Arrays.{same_base}
use Rattle.shape_types.proofs.Joins.{IsPartJoin, join_of_parts}
use Rattle.shape_types.proofs.Orders.{join_is}
use Rattle.shape_types.proofs.order.join.Goals as goal

pub returns-clause-least : goal.returns-clause-least
returns-clause-least c =
    let a = c.args.a.now in
    let b = c.args.b.now in
    let bases : same_base a.base b.base ≡ true = sym c.same_base.ensures ∙ c.if-not-same_base.false in
    join_is a b c.join_parts.result bases (subst (IsPartJoin a.part b.part) (sym c.join_parts.ensures) (join_of_parts a.part b.part))

use Rattle.std.proofs.Common.{refl, map}
use Rattle.core_ir.specs.Terms.{Gives, chain}
use Rattle.core_ir.specs.View.{let_term}
use Rattle.parted_bodies.proofs.Shown.{plain_part}
use Rattle.parted_bodies.proofs.parts.default_part.Goals as goal

pub returns-clause-part : goal.returns-clause-part
returns-clause-part c =
    plain_part _ _ _ _ refl (λ i. record { grid = c.args.grid; index = c.in_ok-index.ensures.var i; site = c.args.site })
    (λ i. chain (map let_term (c.new.ensures.items i)) (Gives (c.in_ok-one.ensures i)))

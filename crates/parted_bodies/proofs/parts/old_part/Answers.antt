use Rattle.std.proofs.Common.{refl, map, ap, ◌∙◌, [], ◌∷◌, ◌++◌}
use Rattle.core_ir.specs.Terms.{PlainTerm, Gives, Bind, Plain, chain}
use Rattle.core_ir.specs.View.{let_term}
use Rattle.core_subst.specs.Names.{variable}
use Rattle.parted_bodies.proofs.Shown.{plain_part}
use Rattle.parted_bodies.proofs.parts.old_part.Goals as goal

pub returns-clause-part : goal.returns-clause-part
returns-clause-part c =
    let index = c.in_ok-index.ensures.var in
    let cell = c.in_ok-cell.ensures.var ∙ ap (λ q. variable q.next) c.in_ok-index.ensures.next in
    plain_part _ _ _ _ refl (λ i. record { grid = c.args.grid; index = index i; site = c.args.site })
    ((λ i. chain (map let_term ((c.in_ok-push.ensures.items ∙ ap (λ l. l ++ (c.in_ok-binding.field-0 ∷ [])) c.new-lets.ensures.items) i)) (Gives (c.in_ok-one.ensures i)))
    ∙ (λ i. Bind (c.in_ok-binding.ensures i).targets (c.in_ok-binding.ensures i).site (c.in_ok-binding.ensures i).right (Gives (c.in_ok-cell.cell ∷ [])))
    ∙ (λ i. Bind (cell i ∷ []) c.args.site (Plain (PlainTerm.Select c.args.array (index i))) (Gives (cell i ∷ []))))

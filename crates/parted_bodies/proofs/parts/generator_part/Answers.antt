use Rattle.std.proofs.Common.{◌≡◌, ◌+◌, [], ◌∷◌, suc, length, refl, sym, ap, ◌∙◌}
use Rattle.core_ir.specs.declared.tree.CoreGen.{out-CoreGen}
use Rattle.core_subst.specs.Names.{variable}
use Rattle.parted_bodies.specs.declared.names.Progress.{Progress}
use Rattle.parted_bodies.specs.Numbering.{named_in, numbered}
use Rattle.parted_bodies.specs.Making.{binds_of, component_lets, component_names, generator_part, part_body}
use Rattle.parted_bodies.proofs.Shown.{body_made, generator_binds, gen_out, gen_site, part_roll}
use Rattle.parted_bodies.proofs.parts.generator_part.Goals as goal

pub returns-clause-part : goal.returns-clause-part
returns-clause-part c =
    let g = c.args.generator.now in
    let p = c.args.progress.now in
    let one = ap (λ (q : Progress). q.next) c.in_ok-index.ensures.next in
    let names = c.deref.ensures.value in
    let body = body_made (out-CoreGen g) p.next c.take.new.self.next c.components.new.progress.next c.in_ok-index.index c.in_ok-lets.lets.items c.in_ok-bound_in.field-0.items c.in_ok-copied.field-0
    (named_in c.new-names.result) (named_in c.set.new.self) (named_in c.components.new.names) (named_in c.set_all.new.self) _
    c.in_ok-append.ensures.items refl c.new-names.ensures c.in_ok-set.ensures
    (λ z. c.in_ok-lets.ensures.names z ∙ (λ j. component_names (named_in c.set.new.self) (names j) c.take.new.self.next z))
    (λ z. c.in_ok-set_all.ensures.named z ∙ (λ j. numbered (named_in c.components.new.names) (c.deref-2.ensures.value j) c.components.new.progress.next z))
    (c.in_ok-lets.ensures.lets ∙ (λ j. component_lets (out-CoreGen g).site c.in_ok-index.index 0 (names j) c.take.new.self.next))
    c.in_ok-bound_in.ensures c.in_ok-copied.ensures one
    (ap (λ (q : Progress). q.next) c.in_ok-lets.ensures.next ∙ (λ j. c.take.new.self.next + (length (names j) + length (names j))))
    c.in_ok-index.ensures.var ∙ ap (λ t. part_body t (variable p.next) (suc p.next)) (sym (gen_out g)) in
    part_roll _ ∙ (λ j. record { head = record { grid = c.args.grid; index = c.in_ok-index.ensures.var j; site = (gen_site g) j }; body = body j })

pub returns-clause-next : goal.returns-clause-next
returns-clause-next c =
    let g = c.args.generator.now in
    let p = c.args.progress.now in
    let names = c.deref.ensures.value in
    let bound = c.in_ok-bound_in.field-0.items in
    let whole : c.set_all.new.progress ≡ record p { next = (suc p.next + (length (out-CoreGen g).names.items + length (out-CoreGen g).names.items)) + length bound } =
    c.in_ok-set_all.ensures.next ∙ (λ j. record (c.in_ok-lets.ensures.next j) { next = (c.in_ok-lets.ensures.next j).next + length (c.deref-2.ensures.value j) })
    ∙ (λ j. record (c.in_ok-index.ensures.next j) { next = ((c.in_ok-index.ensures.next j).next + (length (names j) + length (names j))) + length bound }) in
    whole ∙ (λ j. record p { next = generator_binds (out-CoreGen g) c.args.grid p.next _ bound c.in_ok-bound_in.ensures refl j })
    ∙ (λ j. record p { next = p.next + binds_of (generator_part (sym (gen_out g) j) c.args.grid p.next ∷ []) })

use Rattle.std.proofs.Common.{◌+◌, ◌∙◌, length}
use Rattle.core_ir.specs.View.{block_term}
use Rattle.parted_bodies.specs.Numbering.{named_in, numbered}
use Rattle.folded_parts.proofs.Bodies.{renamed_made}
use Rattle.folded_parts.proofs.renaming.renamed.Goals as goal

pub returns-clause-body : goal.returns-clause-body
returns-clause-body c =
    let n = c.args.progress.now.next in
    renamed_made c.args.index c.args.own (block_term c.args.body.now) (block_term c.in_ok-copy.copy) n c.in_ok-bound_in.field-0.items
    (named_in c.new-names.result) (named_in c.set.new.self) (named_in c.set_all.new.self) c.new-names.ensures c.in_ok-set.ensures
    (λ z. c.in_ok-set_all.ensures.named z ∙ (λ j. numbered (named_in c.set.new.self) (c.deref.ensures.value j) n z))
    c.in_ok-bound_in.ensures c.in_ok-copy.ensures

pub returns-clause-next : goal.returns-clause-next
returns-clause-next c =
    let p = c.args.progress.now in
    c.in_ok-set_all.ensures.next ∙ (λ j. record p { next = p.next + length ((c.deref.ensures.value ∙ c.in_ok-bound_in.ensures) j) })

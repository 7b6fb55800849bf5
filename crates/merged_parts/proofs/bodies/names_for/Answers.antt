use Rattle.std.proofs.Common.{ap, ◌∙◌, ◌++◌}
use Rattle.core_ir.specs.View.{block_term}
use Rattle.parted_bodies.specs.Numbering.{named_in}
use Rattle.merged_parts.proofs.Numbered.{counted_all, named_all, two_pushed}
use Rattle.merged_parts.proofs.bodies.names_for.Goals as goal

pub returns-clause-names : goal.returns-clause-names
returns-clause-names c =
    named_all c.args.outer c.args.inner (block_term c.args.around.now) (block_term c.args.body.now) c.args.progress.now.next c.extend_from_slice-2.new.self.items c.push-2.new.self.items
    c.extend_from_slice.new.self.items c.deref-3.result.now (named_in c.new-names.result) (named_in c.set_all.new.self)
    (two_pushed c.args.outer c.args.inner c.new-vars.result.items c.push.new.self.items c.push-2.new.self.items c.new-vars.ensures.items c.in_ok-push.ensures.items c.in_ok-push-2.ensures.items)
    (c.in_ok-extend_from_slice.ensures.items ∙ ap (λ l. c.push-2.new.self.items ++ l) (c.deref.ensures.value ∙ c.in_ok-bound_in.ensures))
    (c.in_ok-extend_from_slice-2.ensures.items ∙ ap (λ l. c.extend_from_slice.new.self.items ++ l) (c.deref-2.ensures.value ∙ c.in_ok-bound_in-2.ensures))
    c.deref-3.ensures.value c.new-names.ensures c.in_ok-set_all.ensures.named

pub returns-clause-next : goal.returns-clause-next
returns-clause-next c =
    c.in_ok-set_all.ensures.next
    ∙ (λ i. record c.args.progress.now {
      next = counted_all c.args.outer c.args.inner (block_term c.args.around.now) (block_term c.args.body.now) c.args.progress.now.next c.extend_from_slice-2.new.self.items c.push-2.new.self.items
          c.extend_from_slice.new.self.items c.deref-3.result.now
          (two_pushed c.args.outer c.args.inner c.new-vars.result.items c.push.new.self.items c.push-2.new.self.items c.new-vars.ensures.items c.in_ok-push.ensures.items c.in_ok-push-2.ensures.items)
          (c.in_ok-extend_from_slice.ensures.items ∙ ap (λ l. c.push-2.new.self.items ++ l) (c.deref.ensures.value ∙ c.in_ok-bound_in.ensures))
          (c.in_ok-extend_from_slice-2.ensures.items ∙ ap (λ l. c.extend_from_slice.new.self.items ++ l) (c.deref-2.ensures.value ∙ c.in_ok-bound_in-2.ensures)) c.deref-3.ensures.value i;
    })

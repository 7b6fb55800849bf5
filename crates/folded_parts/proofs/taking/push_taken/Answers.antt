use Rattle.std.proofs.Common.{◌++◌, ◌∙◌, map, ap}
use Rattle.core_ir.specs.View.{block_term, let_term}
use Rattle.parted_bodies.specs.declared.names.Progress.{Progress}
use Rattle.folded_parts.specs.Folding.{last_copy}
use Rattle.folded_parts.proofs.Bodies.{copy_made, copy_taken, taken_made}
use Rattle.folded_parts.proofs.taking.push_taken.Goals as goal

pub returns-clause-lets : goal.returns-clause-lets
returns-clause-lets c =
    let p = c.args.part.now in
    let n = c.args.progress.now.next in
    let made = copy_made p (block_term c.in_ok-inner.field-0) n c.take.new.self.next c.in_ok-own.own c.in_ok-inner.ensures.body c.in_ok-own.ensures.var
    (ap (λ (q : Progress). q.next) c.in_ok-own.ensures.next) in
    taken_made p c.args.index c.args.targets.now c.args.site n c.in_ok-own.own c.in_ok-inner.field-0 c.args.lets.now.items c.push.new.self.items c.append.new.self.items c.push_last.new.lets.items c.in_ok-copy_of.field-0
    made c.in_ok-own.ensures.var c.in_ok-copy_of.ensures c.in_ok-push.ensures.items c.in_ok-append.ensures.items
    (c.in_ok-push_last.ensures ∙ (λ j. map let_term c.append.new.self.items ++ last_copy c.args.targets.now (c.deref.ensures.value j) c.args.site))

pub returns-clause-next : goal.returns-clause-next
returns-clause-next c = copy_taken c.args.part.now c.args.progress.now c.take.new.self c.renamed.new.progress c.in_ok-own.ensures.next c.in_ok-inner.ensures.next

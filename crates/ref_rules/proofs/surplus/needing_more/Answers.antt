use Rattle.std.proofs.Common.{◌+◌, ◌++◌, drop, arith, ap, ◌∙◌}
use Rattle.counted_laws.specs.placing.Placing.{surplus}
use Rattle.ref_rules.proofs.Counted.{due_more, all_due}
use Rattle.ref_rules.proofs.Taken.{drop_here, added, not_added}
use Rattle.ref_rules.proofs.surplus.needing_more.Goals as goal
use Rattle.ref_rules.proofs.surplus.needing_more.Goals.{then-not-take_one+in_ok-push, else-not-take_one}

pub returns : goal.returns
returns c = all_due c.loop-x.free c.loop-x.more.items c.args.places.now (surplus c.args.places.now c.args.own.now) c.loop-x.x-index (omega arith) c.loop-x.invariant

pub loop-x-preserved : goal.loop-x-preserved
loop-x-preserved c =
    due_more c.loop-x.free c.take_one.new.counts _ (drop c.loop-x.x-index c.args.places.now) (drop (c.loop-x.x-index + 1) c.args.places.now) c.loop-x.more.items c.if-not-take_one.more.items _ c.take_one.result
    (drop_here c.args.places.now c.loop-x.x-index _ c.loop-x-test.true) c.take_one.ensures.was_there c.take_one.ensures.rest
    (elim c.if-not-take_one.branch [
      | then-not-take_one+in_ok-push w ↦ added c.loop-x.more.items c.if-not-take_one.more.items _ c.take_one.result (ap (λ v. v.items) w.more-is ∙ w.in_ok-push.ensures.items) w.if-not-take_one.true
      | else-not-take_one w ↦ not_added c.loop-x.more.items c.if-not-take_one.more.items _ c.take_one.result (ap (λ v. v.items) w.more-is) w.if-not-take_one.false
    ])
    c.loop-x.invariant

pub loop-x-init : goal.loop-x-init
loop-x-init c = (c.args.own.now, c.in_ok-free.ensures, ap (λ xs. xs ++ surplus c.args.places.now c.args.own.now) c.new-more.ensures.items)

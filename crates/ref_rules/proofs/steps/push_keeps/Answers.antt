use Rattle.std.proofs.Common.{◌+◌, drop}
use Rattle.ref_rules.proofs.Appended.{keeps_more}
use Rattle.ref_rules.proofs.Taken.{drop_here}
use Rattle.ref_rules.proofs.steps.push_keeps.Goals as goal

pub loop-x-preserved : goal.loop-x-preserved
loop-x-preserved c =
    keeps_more c.args.steps.now.items c.loop-x.steps.items c.push.new.self.items c.args.vars.now (drop c.loop-x.x-index c.args.vars.now) (drop (c.loop-x.x-index + 1) c.args.vars.now) _
    (drop_here c.args.vars.now c.loop-x.x-index _ c.loop-x-test.true) c.in_ok-push.ensures.items c.loop-x.invariant

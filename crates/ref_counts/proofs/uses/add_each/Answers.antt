use Rattle.std.proofs.Common.{◌+◌, drop, arith}
use Rattle.ref_counts.proofs.Collected.{each_more, each_done}
use Rattle.ref_rules.proofs.Taken.{drop_here}
use Rattle.ref_counts.proofs.uses.add_each.Goals as goal

pub loop-x-preserved : goal.loop-x-preserved
loop-x-preserved c =
    each_more c.args.out.now.items c.loop-x.out.items c.push.new.self.items c.args.xs.now (drop c.loop-x.x-index c.args.xs.now) (drop (c.loop-x.x-index + 1) c.args.xs.now) _
    (drop_here c.args.xs.now c.loop-x.x-index _ c.loop-x-test.true) c.in_ok-push.ensures.items c.loop-x.invariant

pub returns : goal.returns
returns c = each_done c.args.out.now.items c.loop-x.out.items c.args.xs.now c.loop-x.x-index c.loop-x.invariant (omega arith)

use Rattle.std.proofs.Common.{◌+◌, drop, arith}
use Rattle.ref_rules.proofs.Counted.{count_fits}
use Rattle.ref_rules.proofs.Taken.{drop_here}
use Rattle.ref_rules.proofs.surplus.counts_of.Goals as goal

pub overflow_add-count : goal.overflow_add-count
overflow_add-count c =
    let fits = count_fits c.loop-x.counts c.args.xs.now (drop c.loop-x.x-index c.args.xs.now) (drop (c.loop-x.x-index + 1) c.args.xs.now) _ c.count_at-count.result
    (drop_here c.args.xs.now c.loop-x.x-index _ c.loop-x-test.true) c.count_at-count.ensures c.loop-x.invariant in
    omega (arith, fits, c.loop-x.auto.x-index-end)
